pub mod EntryInside
pub mod OutsideRange
pub mod Refusals
pub mod ServedBy
pub mod Slots
