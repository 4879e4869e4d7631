pub mod Writes
pub mod Selects
pub mod Statements
