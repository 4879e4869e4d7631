pub mod Spells
pub mod Prints
pub mod Given
pub mod Valid
