pub mod Files
pub mod SharedBumps
pub mod SharedPools
