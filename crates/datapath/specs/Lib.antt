pub mod Result
pub mod Transfer
pub mod Halves
