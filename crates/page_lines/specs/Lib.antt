pub mod Below
pub mod Lines
