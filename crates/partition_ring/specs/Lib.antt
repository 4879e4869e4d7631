pub mod Placement
pub mod Buckets
