pub mod GoneLemmas
pub mod StepLemmas
pub mod RestLemmas
