pub mod Columns
pub mod Writes
pub mod Statements
pub mod Selects
pub mod Distribution
pub mod From
pub mod SelectStatement
pub mod Checked
