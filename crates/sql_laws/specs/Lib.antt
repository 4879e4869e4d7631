pub mod Alone
pub mod Parts
pub mod InRounds
pub mod OnShares
