pub mod Ddl
pub mod NestsSteps
pub mod Procedures
pub mod Types
