pub mod Past
pub mod Explained
pub mod Channels
pub mod Phases
pub mod Steps
pub mod Law
pub mod Enabled
