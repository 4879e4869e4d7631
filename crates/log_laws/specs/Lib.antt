pub mod Histories
pub mod Copies
