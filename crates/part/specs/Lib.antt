pub mod Grammar
pub mod Code
