pub mod Turns
pub mod Going
pub mod Streams
pub mod Lines
pub mod Skipping
