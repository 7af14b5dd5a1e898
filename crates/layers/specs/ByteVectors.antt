-- A vector of bytes at an offset in a region.
use Rattle.bb_memory_traits.specs.Chunk.{AreApart, Chunk, IsInside, Region}
use Rattle.bb_memory_traits.specs.HeldBytes.{HeldBytes, bytes_in, held_region}
use Rattle.bb_memory_traits.specs.declared.allocator.AllocationGrowError.{AllocationGrowError}
use Rattle.bb_memory_traits.specs.declared.layout.Layout.{Layout}
use Rattle.layers.specs.Slabs.{IsOfBytes}
use Rattle.layers.specs.declared.byte_vector.PushError.{PushError}
use Rattle.layers.specs.declared.byte_vector.PushError.TheVariants.{Full, TooLong}
use Rattle.std.specs.Align.{IsLayout}
use Rattle.std.specs.Prelude.{Err, IfErr, IsOk, List, Ok, OnOk, Result, Some, [], length, slice_get, ℕ, ◌++◌, ◌+◌, ◌<◌, ◌∷◌, ◌≡◌, ◌≤◌, ◌⊎◌}

-- a vector: its offset from the region's start, how many bytes it has room for, and how many it has
pub record ByteVector : Type 0 where
  pub offset : ℕ
  pub capacity : ℕ
  pub len : ℕ

-- a vector's bytes in a region, wherever the region starts
abbrev pub contents : HeldBytes → ByteVector → List ℕ
contents held vector = bytes_in held (record { place = held.start + vector.offset; len = vector.len })

-- the vector is in a live chunk of the allocator whose region this is, and which may release the
-- chunk
pub record LivesIn (region : Region) (may_release : ℕ → Type 0) (held : HeldBytes) (vector : ByteVector) : Type 0 where
  pub same_region : held_region held ≡ region
  pub live : may_release (held.start + vector.offset)
  pub inside : vector.offset + vector.capacity ≤ length held.bytes

-- the vector has one more byte, after the others, and the region begins and ends at the same places
pub record IsPushed (here there : HeldBytes) (old : ByteVector) (byte : ℕ) (new : ByteVector) : Type 0 where
  pub behind : contents there new ≡ contents here old ++ byte ∷ []
  pub region : held_region there ≡ held_region here

-- every byte of the region except the one after the vector's last is unchanged
abbrev pub KeepsOthers : HeldBytes → ByteVector → HeldBytes → Type 0
KeepsOthers here vector there = (another : Chunk) → IsInside (held_region here) another
    → AreApart (record { place = here.start + vector.offset + vector.len; len = 1 }) another
    → bytes_in there another ≡ bytes_in here another

-- the allocator may give this answer to a grow by one byte: not every pair of layouts rules it out
pub record MayGrowByOne (may_grow : Layout → Layout → Result Chunk AllocationGrowError → Type 0)
    (size : ℕ) (answer : Result Chunk AllocationGrowError) : Type 0 where
  pub may : ¬ ((old new : Layout) → IsOfBytes old size → IsOfBytes new (size + 1) → ¬ may_grow old new answer)

-- the reason why a chunk wasn't grown by one byte
abbrev pub PushFails : (Layout → Layout → Result Chunk AllocationGrowError → Type 0) → ℕ → PushError → Type 0
-- there is no layout of this many bytes, or of one more
PushFails may_grow size (TooLong cause) = (¬ IsLayout size 1) ⊎ (¬ IsLayout (size + 1) 1)
PushFails may_grow size (Full error) = MayGrowByOne may_grow size (Err error)

-- the chunk at this place was grown from `old_size` to `new_size` bytes, as the allocator may grow
-- it
pub record IsGrown (may_grow : Layout → Layout → Result Chunk AllocationGrowError → Type 0)
    (place old_size new_size : ℕ) : Type 0 where
  pub longer : old_size < new_size
  pub grown : MayGrowByOne may_grow old_size (Ok (record { place = place; len = new_size }))

-- Makes room for one more byte, in a region that starts at `start`: without a request if there is
-- room, and otherwise as the allocator may grow the chunk on each live list that it stands for. A
-- refusal has a reason.
pub record MakesRoom (stands_for : List Chunk → Type 0)
    (may_grow : List Chunk → ℕ → Layout → Layout → Result Chunk AllocationGrowError → Type 0) (start : ℕ)
    (old : ByteVector) (result : Result (Unit {0}) PushError) (new : ByteVector) : Type 0 where
  pub at_once : old.len < old.capacity → IsOk result × (new.capacity ≡ old.capacity)
  pub grown : OnOk result ((live : List Chunk) (position : ℕ) (chunk : Chunk)
      → old.len ≡ old.capacity → stands_for live → slice_get live position ≡ Some chunk → chunk.place ≡ start + old.offset
      → IsGrown (may_grow live chunk.place) chunk.place old.capacity new.capacity)
  pub refused : IfErr result (λ error. (live : List Chunk) (position : ℕ) (chunk : Chunk)
      → stands_for live → slice_get live position ≡ Some chunk → chunk.place ≡ start + old.offset
      → PushFails (may_grow live chunk.place) old.capacity error)
