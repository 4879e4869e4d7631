pub mod CopyLemmas
pub mod LawLemmas
