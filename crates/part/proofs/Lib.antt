pub mod Words
pub mod Formula
pub mod Course
pub mod Laws
