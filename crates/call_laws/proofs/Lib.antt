pub mod Agents
pub mod Sites
pub mod Clients
pub mod Worlds
pub mod Laws
