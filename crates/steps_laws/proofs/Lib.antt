pub mod Numbers
pub mod References
pub mod Items
pub mod Whole
