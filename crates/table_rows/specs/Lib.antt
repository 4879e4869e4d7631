pub mod Held
pub mod Spread
pub mod Order
pub mod Table
pub mod Keyed
pub mod Standing
