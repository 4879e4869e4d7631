pub mod Calls
pub mod Spelling
pub mod Reading
pub mod Again
pub mod Accounts
pub mod Answers
pub mod Carrying
pub mod Scenario
