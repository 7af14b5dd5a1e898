-- The bump object: chunks are allocated one after another, and all given back at once.
use Rattle.bb_memory_traits.specs.Chunk.{AlignmentFailure, AllocationError, Chunk, IsSound, Layout, OutOfMemory, Region, SizeIsZero, SizeTooLarge, chunk_end, region_end}
use Rattle.bb_memory_traits.specs.LeastPlace.{least_place}
use Rattle.bb_memory_traits.specs.Object.{Object, object_of}
use Rattle.std.specs.Prelude.{Err, List, Ok, Result, [], true, ℕ, ◌-◌, ◌<◌, ◌∷◌, ◌≡◌, ◌≤◌}

-- the end of the last chunk, or v if the list is empty
abbrev pub end_of_last : ℕ → List Chunk → ℕ
end_of_last v [] = v
end_of_last v (chunk ∷ live) = end_of_last (chunk_end chunk) live

-- the chunk of the requested size at the least place at or after v
abbrev pub chunk_at_or_after : ℕ → Layout → Chunk
chunk_at_or_after v layout = record { place = least_place v layout.align; len = layout.size }

-- the chunk that a request gets on a live list, if it ends inside the region
abbrev pub next_chunk : Region → List Chunk → Layout → Chunk
next_chunk region live layout = chunk_at_or_after (end_of_last region.start live) layout

-- The answers that the bump object may give to a request on a live list, and when.
abbrev pub MayAllocate : Region → List Chunk → Layout → Result Chunk AllocationError → Type 0
MayAllocate region live layout (Ok chunk) =
    (0 < layout.size) × (chunk_end chunk ≤ region_end region) × (chunk ≡ next_chunk region live layout)
MayAllocate region live layout (Err SizeIsZero) = layout.size ≡ 0
MayAllocate region live layout (Err OutOfMemory) =
    (0 < layout.size) × (region_end region < chunk_end (next_chunk region live layout))
-- no request fails with this error
MayAllocate region live layout (Err SizeTooLarge) = ⊥
MayAllocate region live layout (Err AlignmentFailure) = ⊥

-- the bump object over a region: these answers, and a release that gives back all chunks at once
abbrev pub bump_object : Region → Object
bump_object region = object_of true (MayAllocate region)

-- each chunk begins at or after the end of the one before it, and the first one at or after v
abbrev pub IsInOrder : ℕ → List Chunk → Type 0
IsInOrder v [] = Unit {0}
IsInOrder v (chunk ∷ live) = (v ≤ chunk.place) × IsInOrder (chunk_end chunk) live

-- how many bytes of the region a live list uses: those from the region's start to the end of the
-- last chunk, padding included
abbrev pub used_space : Region → List Chunk → ℕ
used_space region live = end_of_last region.start live - region.start

-- a bump at this position stands for this live list: the list is sound and in order, and uses the
-- bytes up to the position
pub record StandsFor (region : Region) (position : ℕ) (live : List Chunk) : Type 0 where
  pub sound : IsSound region live
  pub in_order : IsInOrder region.start live
  pub used : position ≡ used_space region live
