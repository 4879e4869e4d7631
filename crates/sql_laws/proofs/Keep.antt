pub mod Databases
pub mod Statements
pub mod PutBack
pub mod Told
