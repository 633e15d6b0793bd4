mod Scan
pub mod Read
mod Ahead
pub mod Filled
pub mod Refusals
