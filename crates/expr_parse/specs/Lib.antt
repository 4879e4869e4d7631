pub mod CommaLists
pub mod Cursor
pub mod Expressions
pub mod Nests
pub mod Reads
pub mod Words
