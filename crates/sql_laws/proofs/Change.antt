pub mod Twins
pub mod Fates
pub mod Rows
pub mod Inserts
