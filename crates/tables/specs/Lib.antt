pub mod Below
pub mod Words
pub mod Representation
pub mod Phases
