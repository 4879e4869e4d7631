pub mod States
pub mod Passed
pub mod Standard
pub mod Supply
pub mod Store
pub mod Words
pub mod Buffer
