pub mod Below
pub mod Goals
