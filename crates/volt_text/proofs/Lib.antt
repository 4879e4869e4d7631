pub mod Cuts
pub mod Pieces
pub mod QuotedTexts
pub mod Runs
pub mod Spans
pub mod Total
pub mod Unique
