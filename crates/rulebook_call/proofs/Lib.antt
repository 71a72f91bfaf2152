pub mod Reported
pub mod Call
