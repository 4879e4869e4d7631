pub mod CowLemmas
