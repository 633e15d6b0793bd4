pub mod Lookup
pub mod Served
pub mod CodeRange
