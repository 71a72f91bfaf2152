pub mod Below
pub mod Release
pub mod Lengths
