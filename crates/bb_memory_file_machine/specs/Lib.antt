pub mod FileLaws
pub mod FileMachine
pub mod FileMoves
pub mod FilePool
pub mod FileQueueVariants
pub mod FileQueues
pub mod FileVariants
pub mod FileWorld
