pub mod Meaning
pub mod Sound
pub mod Tied
pub mod Carries
pub mod Law
pub mod Adding
