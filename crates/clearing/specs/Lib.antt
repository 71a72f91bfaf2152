pub mod Below
pub mod Lengths
