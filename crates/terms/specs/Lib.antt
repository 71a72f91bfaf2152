pub mod Terms
pub mod Levels
