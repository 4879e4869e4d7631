pub mod Classes
pub mod Premises
