pub mod ReleaseReported
pub mod Lengths
