pub mod Heads
pub mod Cases
