pub mod Machine
pub mod Calls
pub mod Transactions
pub mod Worlds
pub mod Answers
