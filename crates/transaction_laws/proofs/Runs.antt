-- Logs of sites, choices, how an epoch begins, all events and every run, the laws.
pub mod Logs
pub mod Blank
pub mod Choices
pub mod Epochs
pub mod Leads
pub mod Worlds
pub mod Told
pub mod Laws
