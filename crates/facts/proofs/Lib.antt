pub mod Comparing
pub mod Lists
