pub mod Small
pub mod Conjuncts
