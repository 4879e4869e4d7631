pub mod Calls
pub mod Crossing
pub mod SlotLemmas
pub mod Walks
pub mod WordLemmas
