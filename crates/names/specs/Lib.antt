pub mod Below
pub mod Chains
pub mod Tables
