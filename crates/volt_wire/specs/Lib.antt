pub mod Word
pub mod Stream
