pub mod Complaints
pub mod Expressions
