-- Events of agents.
pub mod Words
pub mod Decided
pub mod AgentSends
pub mod Views
pub mod Admits
pub mod AgentTurns
pub mod AgentWords
pub mod AgentHandlers
pub mod AgentEvents
