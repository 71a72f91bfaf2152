pub mod Below
pub mod Judgments
