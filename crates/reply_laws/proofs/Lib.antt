pub mod Laws
pub mod Answers
pub mod LastReplies
pub mod Turns
pub mod Worlds
