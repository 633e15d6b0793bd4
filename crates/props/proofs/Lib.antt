pub mod RecordInside
pub mod Refusals
