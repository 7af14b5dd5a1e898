pub mod LastFreed
mod Listings
mod LowestBits
mod NumberFlags
pub mod NumberSets
mod NumberWords
mod OpenWords
pub mod Tallies
