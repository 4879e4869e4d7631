pub mod Bits
pub mod Layout
pub mod Lends
pub mod Ownership
pub mod Tuples
