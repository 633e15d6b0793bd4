mod Loading
pub mod Entries
pub mod LastServes
mod TablesFit
pub mod Refusals
pub mod Serves
mod DifferingEntry
mod StrictWalk
pub mod StrictLoading
pub mod KnownTypes
