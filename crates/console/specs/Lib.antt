pub mod Asked
pub mod Before
pub mod Characters
pub mod Unseen
