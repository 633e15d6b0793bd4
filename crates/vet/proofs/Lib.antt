pub mod FirstFault
pub mod CodesInRange
pub mod Verdict
pub mod Refusals
pub mod PassedProps
pub mod PassedCodes
pub mod Faults
