-- A one-chunk allocator, as its contracts see it.
use Rattle.bb_memory_traits.specs.Chunk.{Chunk, chunk_end, first_place, region_end}
pub use Rattle.bb_memory_traits.specs.OneChunkObject.{HasByteAt, IsKept, IsOneChunk, OneChunk, StandsFor, one_chunk_of}
use Rattle.bb_memory_traits.specs.OneChunkObject.{HasRoom, LacksRoom}
pub use Rattle.bb_memory_traits.specs.declared.allocator.AllocationError.{AllocationError}
use Rattle.bb_memory_traits.specs.declared.allocator.AllocationError.TheVariants.{OutOfMemory}
pub use Rattle.bb_memory_traits.specs.declared.allocator.AllocationGrowError.{AllocationGrowError}
pub use Rattle.bb_memory_traits.specs.declared.allocator.AllocationShrinkError.{AllocationShrinkError}
pub use Rattle.bb_memory_traits.specs.declared.layout.Layout.{Layout}
use Rattle.std.specs.Prelude.{Err, IfOk, IsOk, IsSome, None, OnErr, Result, Some, ◌↔◌, ◌≡◌, ◌⊎◌}

-- The effect of a request on the value of the allocator: the answer, and the allocator afterwards.
pub record Takes (old : OneChunk) (layout : Layout) (answer : Result Chunk AllocationError) (new : OneChunk) : Type 0 where
  -- when exactly the request has each outcome
  pub accepted : IsOk answer ↔ ((old.kept ≡ None) × HasRoom old.region layout)
  pub refused : (answer ≡ Err OutOfMemory) ↔ (IsSome old.kept ⊎ LacksRoom old.region layout)
  -- the chunk begins at the layout's first place, which is then kept, and ends at the region's end
  pub begins : IfOk answer (λ chunk. chunk.place ≡ first_place old.region layout)
  pub ends : IfOk answer (λ chunk. chunk_end chunk ≡ region_end old.region)
  pub keeps_place : IfOk answer (λ chunk. new.kept ≡ Some chunk.place)
  -- a refusal changes nothing
  pub unchanged : OnErr answer (new ≡ old)

-- the allocator after a release: no place is kept
abbrev pub Frees : OneChunk → OneChunk → Type 0
Frees old new = new ≡ record old { kept = None }
