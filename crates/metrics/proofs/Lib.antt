pub mod RecordInside
pub mod Measuring
pub mod Refusals
pub mod Widths
