pub mod Table
pub mod Alternatives
pub mod Grammar
pub mod Whiteness
pub mod Sixteen
pub mod Looks
pub mod Plain
pub mod Cases
