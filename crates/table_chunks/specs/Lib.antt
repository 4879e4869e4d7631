pub mod Loading
pub mod Chunks
pub mod Reading
