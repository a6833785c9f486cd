pub mod Printed
pub mod Figure
