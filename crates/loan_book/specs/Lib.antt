pub mod Book
pub mod Calls
