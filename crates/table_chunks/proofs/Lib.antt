pub mod LoadLemmas
pub mod ChunkLemmas
pub mod StoreLemmas
pub mod ReadLemmas
pub mod RestoreLemmas
