pub mod Below
pub mod Reading
pub mod Addresses
pub mod Storing
