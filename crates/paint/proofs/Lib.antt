pub mod FirstColumns
pub mod Lines
pub mod Bars
pub mod CutBytes
pub mod StripPlaces
pub mod Decided
