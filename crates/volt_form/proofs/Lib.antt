pub mod BoundLemmas
pub mod CallLemmas
pub mod FormLemmas
pub mod LineLemmas
pub mod Numbers
