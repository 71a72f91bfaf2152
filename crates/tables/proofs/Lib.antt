pub mod Areas
pub mod Goals
pub mod Defs
pub mod Steps
pub mod Laws
pub mod Rooms
pub mod Phases
