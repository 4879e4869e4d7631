-- A word comes: a copy enters its term, a joiner asks, and a leader with all reports begins it.
pub mod Since
pub mod Entering
pub mod Taking
pub mod Enters
pub mod Joining
pub mod Beginning
pub mod Begun
pub mod Reports
pub mod Viewing
