pub mod Cow
pub mod Lending
pub mod State
