pub mod Ranges
pub mod TruthLemmas
pub mod Collecting
