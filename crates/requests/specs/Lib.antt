pub mod Below
pub mod Requests
