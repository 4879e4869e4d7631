-- Asks to join, streams and their tasks.
pub mod Asks
pub mod Streams
pub mod StreamStarts
pub mod Tasks
pub mod Loads
