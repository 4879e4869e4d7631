-- What other crates name, for all proofs of this one.
pub mod Names
pub mod Entries
pub mod Kept
pub mod Initiators
pub mod Agents
pub mod Sites
pub mod Runs
