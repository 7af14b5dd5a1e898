-- Regions, chunks and lists of live chunks. Re-exports layouts and the errors of requests.
use Rattle.bb_memory_traits.specs.LeastPlace.{least_place}
pub use Rattle.bb_memory_traits.specs.declared.allocator.AllocationError.{AllocationError}
pub use Rattle.bb_memory_traits.specs.declared.allocator.AllocationError.TheVariants.{AlignmentFailure, OutOfMemory, SizeIsZero, SizeTooLarge}
pub use Rattle.bb_memory_traits.specs.declared.layout.Layout.{Layout}
use Rattle.std.specs.Prelude.{All, AllPairs, List, ℕ, ◌%◌, ◌+◌, ◌<◌, ◌^◌, ◌≡◌, ◌≤◌}

-- Regions: the memory that an allocator is given. All sizes, lengths and positions are in bytes.
-- The numbers here are unbounded.

-- the start of a region, and how many bytes it has
pub record Region : Type 0 where
  pub start : ℕ
  pub size : ℕ

-- the region that starts here and has this many bytes
abbrev pub region_at : ℕ → ℕ → Region
region_at start size = record { start = start; size = size }

-- the end of a region: the first address after its last byte
abbrev pub region_end : Region → ℕ
region_end region = region.start + region.size

-- the region is valid: it doesn't start at 0, and its end fits into 64 bits
pub record IsRegion (region : Region) : Type 0 where
  pub start : 0 < region.start
  pub end : region_end region < 2 ^ 64

-- a range of addresses: from a place up to place + length, the latter excluded
pub record Chunk : Type 0 where
  pub place : ℕ
  pub len : ℕ

-- the end of a chunk: the first address after its last one
abbrev pub chunk_end : Chunk → ℕ
chunk_end chunk = chunk.place + chunk.len

-- the chunk is valid: its place isn't 0, and its end fits into 64 bits
pub record IsChunk (chunk : Chunk) : Type 0 where
  pub place : 0 < chunk.place
  pub end : chunk_end chunk < 2 ^ 64

-- n is one of the chunk's addresses
abbrev pub Covers : Chunk → ℕ → Type 0
Covers chunk n = (chunk.place ≤ n) × (n < chunk_end chunk)

-- the first chunk is a part of the second: it begins at or after the second's place, and ends at or
-- before its end
abbrev pub IsPart : Chunk → Chunk → Type 0
IsPart part whole = (whole.place ≤ part.place) × (chunk_end part ≤ chunk_end whole)

-- the two chunks share an address
abbrev pub Overlap : Chunk → Chunk → Type 0
Overlap one other = (n : ℕ) × Covers one n × Covers other n

-- no address is in both chunks
abbrev pub AreApart : Chunk → Chunk → Type 0
AreApart one other = ¬ Overlap one other

-- the chunk begins and ends inside the region
pub record IsInside (region : Region) (chunk : Chunk) : Type 0 where
  pub above : region.start ≤ chunk.place
  pub below : chunk_end chunk ≤ region_end region

-- Live lists: the chunks in use, in the order in which they were allocated. Positions count from 0.

-- the live list is sound: each chunk is inside the region, and no two at different positions
-- overlap
pub record IsSound (region : Region) (live : List Chunk) : Type 0 where
  pub inside : All (IsInside region) live
  pub apart : AllPairs AreApart live

-- the chunk is inside the region, at a multiple of the requested alignment, and at least as long as
-- requested
pub record Fits (region : Region) (layout : Layout) (chunk : Chunk) : Type 0 where
  pub inside : IsInside region chunk
  pub aligned : chunk.place % layout.align ≡ 0
  pub long_enough : layout.size ≤ chunk.len

-- the place of a layout's first chunk in a region
abbrev pub first_place : Region → Layout → ℕ
first_place region layout = least_place region.start layout.align
