pub mod Turns
pub mod Firings
