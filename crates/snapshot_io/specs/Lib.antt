pub mod Chunks
pub mod Base
pub mod Reading
pub mod Writer
