pub mod Files
pub mod Batches
pub mod Append
pub mod ReadBatches
pub mod Opened
pub mod CallLemmas
