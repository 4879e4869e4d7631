pub mod Actors
pub mod Events
pub mod Sorted
