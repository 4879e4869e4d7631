pub mod Histories
pub mod Chain
pub mod Lost
