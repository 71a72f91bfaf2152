pub mod Below
pub mod Concluding
