pub mod Below
pub mod Outcomes
pub mod Leaving
pub mod Simulation
pub mod Told
