pub mod Builders
pub mod Pairs
pub mod Notes
pub mod Accounts
