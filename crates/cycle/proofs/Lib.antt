pub mod Laws
pub mod Normal
pub mod Writes
