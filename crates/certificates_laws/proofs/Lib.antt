pub mod Heads
pub mod Asked
pub mod Standing
pub mod Defs
pub mod Results
pub mod Recording
pub mod Forms
pub mod Whole
