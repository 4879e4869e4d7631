pub mod Overwritten
pub mod UndoLemmas
pub mod DrawLemmas
pub mod FileLemmas
pub mod PowerLemmas
pub mod MemoryLemmas
