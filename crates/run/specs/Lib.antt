pub mod Refusals
pub mod Report
