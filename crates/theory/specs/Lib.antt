pub mod Below
pub mod Declarations
pub mod Walks
