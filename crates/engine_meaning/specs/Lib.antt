pub mod Bodies
pub mod State
pub mod Entries
pub mod Coordinator
pub mod Rounds
