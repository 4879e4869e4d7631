pub mod Trees
pub mod Meanings
pub mod Classes
pub mod Accounts
