pub mod Readers
pub mod Exactness
