pub mod Below
pub mod Numbers
