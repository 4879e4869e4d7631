pub mod Again
pub mod InRounds
