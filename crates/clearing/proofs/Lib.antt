pub mod Areas
pub mod Reported
