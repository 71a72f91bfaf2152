pub mod Below
pub mod Walks
