pub mod Below
pub mod Answers
