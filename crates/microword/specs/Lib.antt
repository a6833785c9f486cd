pub mod Microword
pub mod Code
