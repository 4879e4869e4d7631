pub mod CountLemmas
pub mod PaneLemmas
pub mod SlotLemmas
