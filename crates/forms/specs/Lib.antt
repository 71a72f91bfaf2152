pub mod Below
pub mod Forms
