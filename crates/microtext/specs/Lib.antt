pub mod Onward
pub mod Line
pub mod Reading
pub mod Listing
pub mod Code
