pub mod Walk
pub mod Text
pub mod Within
pub mod Inked
