pub mod Shown
pub mod Collected
