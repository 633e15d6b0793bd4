pub mod Asked
pub mod Blocks
pub mod Picture
pub mod Served
