pub mod Bounds
pub mod Info
