pub mod Tokens
pub mod Code
