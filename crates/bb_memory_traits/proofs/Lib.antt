mod ApartBytes
pub mod BumpObjects
pub mod Cuts
pub mod Factors
pub mod Geometries
pub mod Layouts
pub mod LeastPlaces
mod LiveBytes
pub mod LiveLists
pub mod Measures
pub mod OneChunkLists
pub mod PoolGeometries
pub mod PoolLists
pub mod PowersOfTwo
pub mod Resizes
pub mod Runs
mod Written
