pub mod Columns
pub mod Tables
pub mod Names
pub mod Procedures
pub mod Defined
pub mod Found
