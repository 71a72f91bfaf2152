pub mod Digits
pub mod Rows
