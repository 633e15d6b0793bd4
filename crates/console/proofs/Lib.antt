mod Filling
pub mod Stepping
