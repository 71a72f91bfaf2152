pub mod Below
pub mod Patterns
pub mod Lent
