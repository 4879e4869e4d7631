-- Of what the proofs speak, and what is kept in later states.
pub mod Moves
pub mod Later
pub mod Worded
pub mod Others
pub mod Submitted
pub use Moves.*
pub use Later.*
pub use Worded.*
pub use Others.*
pub use Submitted.*
