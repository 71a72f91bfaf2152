pub mod Below
pub mod Asking
