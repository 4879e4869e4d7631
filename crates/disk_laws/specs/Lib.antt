pub mod Disks
pub mod Survival
