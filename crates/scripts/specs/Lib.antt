pub mod Scripts
pub mod Words
