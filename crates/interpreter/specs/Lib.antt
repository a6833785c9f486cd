pub mod Run
pub mod Code
