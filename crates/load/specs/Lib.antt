pub mod Parts
pub mod Gather
pub mod Load
pub mod Formats
