pub mod Allocators
pub mod Kinds
pub mod LoanPool
pub mod Steps
