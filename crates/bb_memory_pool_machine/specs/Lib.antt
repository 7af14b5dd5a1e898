pub mod PoolHints
pub mod PoolLogs
pub mod PoolMachine
pub mod PoolWorld
