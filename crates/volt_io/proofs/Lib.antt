pub mod StateLemmas
pub mod SupplyLemmas
