pub mod Actors
pub mod Client
pub mod Agent
pub mod Site
pub mod World
pub mod Runs
