pub mod ByteBits
pub mod StripRows
pub mod WholeStrips
