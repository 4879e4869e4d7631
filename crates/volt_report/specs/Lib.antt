pub mod Report
pub mod Spelling
pub mod Examples
