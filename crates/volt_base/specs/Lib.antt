pub mod Reading
pub mod Semantics
pub mod Replies
pub mod Spelling
pub mod Faults
