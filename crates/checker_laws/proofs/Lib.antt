pub mod Whole
pub mod Lengths
