pub mod Names
pub mod Rules
pub mod Catalog
pub mod Held
