pub mod Below
pub mod Classes
pub mod White
pub mod Characters
