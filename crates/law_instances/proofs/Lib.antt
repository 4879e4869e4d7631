pub mod Premises
pub mod Worlds
