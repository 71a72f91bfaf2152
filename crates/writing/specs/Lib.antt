pub mod Buffer
pub mod Answers
