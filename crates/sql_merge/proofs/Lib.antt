pub mod CollectedLemmas
pub mod LoopLemmas
pub mod PutLemmas
