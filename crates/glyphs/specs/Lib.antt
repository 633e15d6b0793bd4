pub mod Glyph
pub mod Char
pub mod Unpack
