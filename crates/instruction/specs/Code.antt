pub mod Effects
pub mod Handed
