pub mod Codes
pub mod Reasons
pub mod Why
