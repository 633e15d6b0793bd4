pub mod Table
pub mod Step
pub mod Decode
pub mod Encoding
pub mod WellFormed
