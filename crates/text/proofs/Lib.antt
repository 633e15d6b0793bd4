pub mod PenBounds
pub mod Placing
pub mod Passes
pub mod Turns
pub mod ShownGlyph
pub mod BeforeFirst
pub mod NoWrap
