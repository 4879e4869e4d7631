-- Lists, logs and copies, apart from the world.
pub mod Lines
pub mod Copies
pub mod Appends
pub use Lines.*
pub use Copies.*
pub use Appends.*
