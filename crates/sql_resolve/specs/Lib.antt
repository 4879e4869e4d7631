pub mod Faults
pub mod Notes
pub mod Bound
pub mod Named
pub mod Names
pub mod Expressions
pub mod Operands
pub mod Tables
