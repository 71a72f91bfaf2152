pub mod Turns
pub mod Holds
pub mod Kept
pub mod Declared
pub mod Firings
