pub mod Below
pub mod Certificates
