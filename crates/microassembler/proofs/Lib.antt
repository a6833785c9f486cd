pub mod Filled
pub mod Normal
pub mod Laws
pub mod Figures
