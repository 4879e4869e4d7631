pub mod Zeros
pub mod CellLemmas
pub mod RowLemmas
