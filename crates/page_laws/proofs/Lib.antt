pub mod Kept
pub mod Lines
pub mod Used
pub mod Whole
