pub mod Outbox
pub mod Site
pub mod Channels
pub mod World
pub mod Outcomes
pub mod Echo
