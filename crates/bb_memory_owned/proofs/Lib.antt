mod FreshPools
mod KeptRuns
mod OneChunks
mod PoolAnswers
mod PoolCalls
mod PoolRuns
mod Pools
