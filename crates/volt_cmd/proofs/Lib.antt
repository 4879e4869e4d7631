pub mod RunLemmas
pub mod PrintLemmas
pub mod AccountLines
pub mod InputLemmas
pub mod ExplainLemmas
pub mod CauseLemmas
