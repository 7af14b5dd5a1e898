pub mod Heap
pub mod HeapLending
pub mod OneChunk
pub mod Pool
