-- Promises of the calls that request a chunk or grow one: all that `allocate` and `grow` promise.
use Rattle.bb_memory_traits.specs.Chunk.{AllocationError, Chunk, Fits, IsInside, Layout, Region}
use Rattle.bb_memory_traits.specs.Object.{AllocationGrowError}
use Rattle.std.specs.Prelude.{IfOk, List, OnErr, Result, Some, [], slice_get, slice_set, ℕ, ◌%◌, ◌++◌, ◌<◌, ◌∷◌, ◌≡◌, ◌≤◌}

-- The ghost items of a `BaseAllocator` that describe a request.
pub record RequestWords (Allocator Geometry Note : Type 0) : Type 1 where
  -- exactly these chunks may be in use
  pub stands_for : Allocator → List Chunk → Type 0
  -- the chunk at the place may be given back
  pub may_release : Allocator → ℕ → Type 0
  pub geometry : Allocator → Geometry
  pub region_of : Geometry → Region
  -- the answers that a request may have on a live list
  pub may_allocate : Geometry → List Chunk → Layout → Result Chunk AllocationError → Type 0
  -- the note that an allocator keeps, and the note after a request
  pub note : Allocator → Note
  pub note_after : Geometry → Layout → Note → Note
  -- the further promise about values
  pub takes : Allocator → Layout → Result Chunk AllocationError → Allocator → Type 0

-- A request for the layout: `old` gave this answer, and is `new` afterwards.
pub record Requested {Allocator Geometry Note : Type 0} (words : RequestWords Allocator Geometry Note)
    (old : Allocator) (layout : Layout) (result : Result Chunk AllocationError) (new : Allocator) : Type 0 where
  -- each live list that `old` stood for: the answer is allowed there, and `new` stands for the list
  -- after it
  pub answer : (live : List Chunk) → words.stands_for old live → words.may_allocate (words.geometry old) live layout result
  pub appended : IfOk result (λ chunk. (live : List Chunk) → words.stands_for old live
      → words.stands_for new (live ++ chunk ∷ []))
  pub kept : OnErr result ((live : List Chunk) → words.stands_for old live → words.stands_for new live)
  -- the chunk may be given back, and fits
  pub given : IfOk result (λ chunk. words.may_release new chunk.place)
  pub fits : IfOk result (Fits (words.region_of (words.geometry old)) layout)
  pub geometry : words.geometry new ≡ words.geometry old
  pub note : words.note new ≡ words.note_after (words.geometry old) layout (words.note old)
  pub value : words.takes old layout result new

-- The ghost items of an `Allocator`, at one value of it, that describe how a chunk is grown.
pub record GrowWords (Allocator : Type 0) : Type 1 where
  -- exactly these chunks may be in use
  pub stands_for : Allocator → List Chunk → Type 0
  pub region : Region
  -- the number of bytes that are reserved for the chunk at a place
  pub reserved_at : ℕ → ℕ
  -- the answers that a grow may have on a live list
  pub may_grow : List Chunk → ℕ → Layout → Layout → Result Chunk AllocationGrowError → Type 0
  -- the further promise about values
  pub grows : Allocator → ℕ → Layout → Layout → Result Chunk AllocationGrowError → Allocator → Type 0

-- A grow of the chunk at the place from one layout to another: `old` gave this answer, and is `new`
-- afterwards.
pub record Grown {Allocator : Type 0} (words : GrowWords Allocator) (old : Allocator) (place : ℕ) (from to : Layout)
    (result : Result Chunk AllocationGrowError) (new : Allocator) : Type 0 where
  -- each live list that `old` stood for, with a chunk at the place
  pub answer : (live : List Chunk) (position : ℕ) (chunk : Chunk) → words.stands_for old live
      → slice_get live position ≡ Some chunk → chunk.place ≡ place → words.may_grow live place from to result
  pub resized : IfOk result (λ grown. (live : List Chunk) (position : ℕ) (chunk : Chunk) → words.stands_for old live
      → slice_get live position ≡ Some chunk → chunk.place ≡ place → words.stands_for new (slice_set live position grown))
  pub same_place : IfOk result (λ grown. grown.place ≡ place)
  pub aligned : IfOk result (λ grown. grown.place % to.align ≡ 0)
  pub longer : IfOk result (λ grown. from.size < grown.len)
  pub long_enough : IfOk result (λ grown. to.size ≤ grown.len)
  pub within : IfOk result (λ grown. grown.len ≤ words.reserved_at place)
  pub inside : IfOk result (IsInside words.region)
  pub unchanged : new ≡ old
  pub value : words.grows old place from to result new
