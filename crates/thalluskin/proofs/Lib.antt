pub mod Answers
pub mod Strides
