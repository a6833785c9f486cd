pub mod Next
pub mod Numbers
