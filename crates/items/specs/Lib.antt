pub mod Below
pub mod Places
pub mod Items
