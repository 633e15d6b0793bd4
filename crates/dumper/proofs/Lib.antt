pub mod LineCounts
pub mod FramesFit
pub mod TextRead
