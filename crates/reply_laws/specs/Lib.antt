pub mod Answers
pub mod LastReplies
pub mod UnderWay
