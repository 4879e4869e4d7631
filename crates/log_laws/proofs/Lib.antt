-- What other crates name, for all proofs of this one.
pub mod Names
pub mod Plain
pub mod Kept
pub mod Messages
pub mod Entries
pub mod NewTerms
pub mod Firmness
pub mod Joins
pub mod Agents
pub mod Runs
