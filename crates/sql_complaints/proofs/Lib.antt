pub mod SearchLemmas
pub mod SortLemmas
pub mod Variants
