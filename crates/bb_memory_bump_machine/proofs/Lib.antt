pub mod BumpAllowed
pub mod BumpBounds
pub mod BumpLogs
mod BumpLosses
pub mod BumpMeetings
pub mod BumpPositions
pub mod BumpRuns
pub mod BumpSteps
mod BumpStretches
pub mod BumpWholes
pub mod OwnChunks
