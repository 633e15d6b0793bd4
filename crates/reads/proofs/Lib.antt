pub mod Tests
pub mod Lies
pub mod Digits
pub mod Signed
pub mod Past
pub mod Places
pub mod Numbers
