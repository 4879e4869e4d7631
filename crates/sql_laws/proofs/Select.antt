pub mod Homes
pub mod Kept
pub mod Ordered
pub mod Grouped
pub mod Whole
pub mod One
