-- A leader appends entries, and copies take them.
pub mod Leads
pub mod Calls
pub mod Puts
