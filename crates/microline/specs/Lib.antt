pub mod Line
pub mod Code
