pub mod Num
pub mod Range
pub mod Said
