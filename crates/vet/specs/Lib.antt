pub mod First
pub mod Vet
