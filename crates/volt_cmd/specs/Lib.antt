pub mod Script
pub mod Prints
pub mod Headline
pub mod Running
pub mod Status
