pub mod Number
pub mod Answer
