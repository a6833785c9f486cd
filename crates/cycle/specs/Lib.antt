pub mod Cycle
pub mod Code
