pub mod Cells
pub mod Faults
pub mod Packing
pub mod Seen
