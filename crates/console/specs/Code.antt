pub mod Shown
pub mod Page
