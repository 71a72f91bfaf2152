pub mod Below
pub mod Probing
pub mod Store
