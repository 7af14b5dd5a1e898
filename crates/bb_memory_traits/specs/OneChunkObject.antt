-- The one-chunk object: one chunk at a time, which is all of the region from its place on.
use Rattle.bb_memory_traits.specs.Chunk.{AlignmentFailure, AllocationError, Chunk, IsRegion, IsSound, Layout, OutOfMemory, Region, SizeIsZero, SizeTooLarge, first_place, region_at, region_end}
use Rattle.bb_memory_traits.specs.Object.{AllocationGrowError, AllocationShrinkError, MayGrowAt, MayShrinkAt, ResizableObject, resizable_object_of}
use Rattle.std.specs.Option.{ForSome}
use Rattle.std.specs.Prelude.{Err, List, None, Ok, Option, Result, Some, [], ℕ, ◌+◌, ◌-◌, ◌<◌, ◌∷◌, ◌≡◌, ◌≢◌, ◌≤◌, ◌⊎◌}

-- how many bytes there are from a place to the region's end
abbrev pub reserved_at : Region → ℕ → ℕ
reserved_at region place = region_end region - place

-- all of the region from a place on
abbrev pub rest_from : Region → ℕ → Chunk
rest_from region place = record { place = place; len = reserved_at region place }

-- the region has room for the layout: it has a byte at the layout's first place, and at least the
-- layout's size from there on
pub record HasRoom (region : Region) (layout : Layout) : Type 0 where
  pub begins : first_place region layout < region_end region
  pub ends : first_place region layout + layout.size ≤ region_end region

-- the region has no room for the layout: the layout's first place is at or after the region's end,
-- or fewer bytes than its size are left from there on
abbrev pub LacksRoom : Region → Layout → Type 0
LacksRoom region layout =
    (region_end region ≤ first_place region layout) ⊎ (region_end region < first_place region layout + layout.size)

-- The answers that the one-chunk object may give to a request on a live list, and when.
abbrev pub MayAllocate : Region → List Chunk → Layout → Result Chunk AllocationError → Type 0
MayAllocate region live layout (Ok chunk) =
    (live ≡ []) × HasRoom region layout × (chunk ≡ rest_from region (first_place region layout))
MayAllocate region live layout (Err OutOfMemory) = (live ≢ []) ⊎ LacksRoom region layout
-- no call fails with this error
MayAllocate region live layout (Err SizeIsZero) = ⊥
MayAllocate region live layout (Err SizeTooLarge) = ⊥
MayAllocate region live layout (Err AlignmentFailure) = ⊥

-- The answers to a grow of the chunk at `place`: the grown chunk has all the bytes that are
-- reserved for it, and the new alignment must not be greater than the old one.
abbrev pub MayGrow : Region → ℕ → Layout → Layout → Result Chunk AllocationGrowError → Type 0
MayGrow region place old = MayGrowAt (reserved_at region place) old.align (reserved_at region place) place old

-- The answers to a shrink of the chunk at `place`: the shrunk chunk has exactly the new size, and
-- the new alignment must not be greater than the old one.
abbrev pub MayShrink : ℕ → Layout → Layout → Result Chunk AllocationShrinkError → Type 0
MayShrink place old = MayShrinkAt old.align place old

-- the one-chunk object over a region; its answers to resizes don't depend on the live list
abbrev pub one_chunk_object : Region → ResizableObject
one_chunk_object region =
    resizable_object_of (MayAllocate region) (reserved_at region) (λ live. MayGrow region) (λ live. MayShrink)

-- STANDS FOR

-- a one-chunk allocator: its region, and the place of the chunk in use, or None
pub record OneChunk : Type 0 where
  pub region : Region
  pub kept : Option ℕ

-- the one chunk over the region that starts here and has this many bytes, with the place that it
-- keeps
abbrev pub one_chunk_of : ℕ → ℕ → Option ℕ → OneChunk
one_chunk_of start size kept = record { region = region_at start size; kept = kept }

-- the region has a byte at this place
pub record HasByteAt (region : Region) (place : ℕ) : Type 0 where
  pub above : region.start ≤ place
  pub below : place < region_end region

-- the invariant of a one-chunk allocator: the region is valid, and has a byte at the kept place, if
-- there is one
pub record IsOneChunk (one : OneChunk) : Type 0 where
  pub region : IsRegion one.region
  pub kept : ForSome one.kept (HasByteAt one.region)

-- if no place is kept, no chunk is in use; otherwise one chunk is in use, at that place
abbrev pub IsKept : Option ℕ → List Chunk → Type 0
IsKept None live = live ≡ []
IsKept (Some place) live = (chunk : Chunk) × (live ≡ chunk ∷ []) × (chunk.place ≡ place)

-- the allocator stands for this live list: the list is sound, and has exactly the chunk at the kept
-- place, if there is one
pub record StandsFor (one : OneChunk) (live : List Chunk) : Type 0 where
  pub sound : IsSound one.region live
  pub keeps : IsKept one.kept live
