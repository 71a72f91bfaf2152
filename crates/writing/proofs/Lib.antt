pub mod Placed
pub mod Turns
pub mod Fields
