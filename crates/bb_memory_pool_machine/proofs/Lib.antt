pub mod PoolDetached
pub mod PoolFlags
pub mod PoolHolders
mod PoolLogEntries
pub mod PoolLogFacts
pub mod PoolLogSteps
pub mod PoolPasses
pub mod PoolRuns
pub mod PoolSteps
