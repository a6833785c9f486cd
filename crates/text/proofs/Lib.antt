pub mod Same
pub mod Lines
pub mod Decimals
pub mod Laid
pub mod Bytes
