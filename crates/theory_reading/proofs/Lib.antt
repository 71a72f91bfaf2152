pub mod Bridge
pub mod Held
pub mod Naming
pub mod Terms
pub mod Stored
