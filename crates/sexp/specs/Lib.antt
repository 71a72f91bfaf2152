pub mod Flattening
pub mod Steps
pub mod Walk
