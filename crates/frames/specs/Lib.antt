pub mod Typed
pub mod Hex
pub mod Whole
pub mod Frames
pub mod Put
pub mod Wrote
pub mod Dump
