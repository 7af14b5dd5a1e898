pub mod ListEntries
mod GroupSums
pub mod Logs
pub mod Positions
pub mod SliceGets
