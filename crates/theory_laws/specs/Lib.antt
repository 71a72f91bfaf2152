pub mod Below
pub mod Reading
pub mod Representation
