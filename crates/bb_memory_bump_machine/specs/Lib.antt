pub mod BumpLogs
pub mod BumpMachine
pub mod BumpWorld
