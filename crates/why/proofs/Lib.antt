pub mod Outside
pub mod SomeBit
pub mod Ordered
