pub mod Below
pub mod Marks
