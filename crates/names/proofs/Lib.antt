pub mod Zeros
pub mod Naming
pub mod Parts
pub mod EndsAtZero
pub mod OffsetInside
pub mod Refusals
