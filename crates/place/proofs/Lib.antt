pub mod Whole
pub mod Held
pub mod Placing
pub mod Refusals
