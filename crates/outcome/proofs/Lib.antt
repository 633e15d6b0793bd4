pub mod Sizes
pub mod Corner
pub mod RowSearch
pub mod WithinLimits
pub mod Tests
pub mod Answered
pub mod Ready
