pub mod Fields
pub mod ValueLemmas
pub mod OrderLemmas
