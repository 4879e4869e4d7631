pub mod Faults
pub mod Keys
pub mod Prepared
pub mod Rows
