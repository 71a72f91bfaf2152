pub mod Following
pub mod Goal
pub mod Goals
pub mod Whole
