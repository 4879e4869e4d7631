pub mod Entries
pub mod Keys
pub mod Index
pub mod Held
