-- The handlers of an agent, and its whole turn.
pub mod AgentHandlers
pub mod AgentTurns
pub mod AgentWaits
pub mod AgentEvents
