pub mod Values
pub mod Order
pub mod OrderLaws
pub mod Columns
pub mod Spelling
pub mod Reading
