pub mod Parts
pub mod Sums
pub mod Hash
pub mod Choice
