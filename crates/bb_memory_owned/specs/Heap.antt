-- Heap blocks: bytes from the language's allocator. Defines which answers the heap may give, and
-- when; nothing here predicts that memory runs out. Alignments are ignored.
use Rattle.bb_memory_traits.specs.declared.allocator.AllocationError.{AllocationError}
use Rattle.bb_memory_traits.specs.declared.allocator.AllocationError.TheVariants.{OutOfMemory, SizeIsZero}
use Rattle.bb_memory_traits.specs.declared.allocator.AllocationGrowError.{AllocationGrowError}
use Rattle.bb_memory_traits.specs.declared.allocator.AllocationGrowError.TheVariants as grow
use Rattle.bb_memory_traits.specs.declared.allocator.AllocationShrinkError.{AllocationShrinkError}
use Rattle.bb_memory_traits.specs.declared.allocator.AllocationShrinkError.TheVariants as shrink
use Rattle.bb_memory_traits.specs.declared.layout.Layout.{Layout}
use Rattle.std.specs.Prelude.{Err, List, Ok, Result, replicate, take, ℕ, ◌++◌, ◌-◌, ◌<◌, ◌≡◌, ◌≤◌}

-- a new block has the requested length and is all zero
abbrev pub MayAllocate : Layout → Result (List ℕ) AllocationError → Type 0
MayAllocate layout (Ok block) = (0 < layout.size) × (block ≡ replicate layout.size 0)
MayAllocate layout (Err SizeIsZero) = layout.size ≡ 0
MayAllocate layout (Err OutOfMemory) = 0 < layout.size
MayAllocate layout answer = ⊥

-- a grown block begins with the old bytes, followed by zeros; a refusal returns the block unchanged
abbrev pub MayGrow : List ℕ → Layout → Layout → Result (List ℕ) (List ℕ × AllocationGrowError) → Type 0
MayGrow block old new (Ok grown) = (old.size < new.size) × (grown ≡ block ++ replicate (new.size - old.size) 0)
MayGrow block old new (Err (back, grow.GrowWouldShrink)) = (new.size ≤ old.size) × (back ≡ block)
MayGrow block old new (Err (back, grow.OutOfMemory)) = (old.size < new.size) × (back ≡ block)
MayGrow block old new answer = ⊥

-- a shrunk block has the first bytes of the old one; a refusal returns the block unchanged
abbrev pub MayShrink : List ℕ → Layout → Layout → Result (List ℕ) (List ℕ × AllocationShrinkError) → Type 0
MayShrink block old new (Ok shrunk) = (0 < new.size) × (new.size < old.size) × (shrunk ≡ take new.size block)
MayShrink block old new (Err (back, shrink.ShrinkWouldGrow)) = (old.size ≤ new.size) × (back ≡ block)
MayShrink block old new (Err (back, shrink.SizeIsZero)) = (new.size ≡ 0) × (0 < old.size) × (back ≡ block)
MayShrink block old new answer = ⊥
