pub mod Answering
pub mod Standing
pub mod Positions
pub mod Readers
