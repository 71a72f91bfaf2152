pub mod Below
pub mod Checker
pub mod Numbers
