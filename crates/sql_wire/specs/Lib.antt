pub mod Bodies
pub mod Parts
pub mod Spelled
pub mod Reading
pub mod ExactValues
pub mod ExactReplies
pub mod ExactParts
pub mod Whole
