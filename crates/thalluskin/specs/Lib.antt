pub mod Version
pub mod Pages
pub mod Reading
pub mod Placing
pub mod Drawing
pub mod Texts
pub mod Reasons
