pub mod FlagWords
pub mod SharedPool
pub mod SharedPoolCaching
pub mod SharedPoolLeaving
pub mod SharedPoolMeetings
pub mod SharedPoolNextFit
pub mod SharedPoolRule
