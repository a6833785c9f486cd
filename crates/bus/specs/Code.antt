pub mod Gives
pub mod Lent
