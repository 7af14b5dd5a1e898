-- A bump allocator, as its contracts see it.
use Rattle.bb_memory_traits.specs.BumpObject.{StandsFor, chunk_at_or_after}
use Rattle.bb_memory_traits.specs.Chunk.{Chunk, IsRegion, Region, chunk_end, region_at, region_end}
use Rattle.bb_memory_traits.specs.LeastPlace.{least_place}
pub use Rattle.bb_memory_traits.specs.declared.allocator.AllocationError.{AllocationError}
pub use Rattle.bb_memory_traits.specs.declared.allocator.AllocationError.TheVariants.{OutOfMemory, SizeIsZero}
pub use Rattle.bb_memory_traits.specs.declared.layout.Layout.{Layout}
use Rattle.std.specs.Fmt.{decimal}
use Rattle.std.specs.Prelude.{Err, IfOk, IsOk, List, OnErr, Result, [], codes, ℕ, ◌++◌, ◌+◌, ◌<◌, ◌↔◌, ◌≡◌, ◌≤◌}

-- a bump: its region, and how many bytes of it are used
pub record Bump : Type 0 where
  pub region : Region
  pub used : ℕ

-- the bump over the region of `size` bytes at `start`, with `used` bytes used
abbrev pub bump_of : ℕ → ℕ → ℕ → Bump
bump_of start size used = record { region = region_at start size; used = used }

-- The invariant of a bump: the region is valid, and at most all of it is used.
pub record IsBump (bump : Bump) : Type 0 where
  pub region : IsRegion bump.region
  pub used : bump.used ≤ bump.region.size

-- The effect of a request on the value of a bump: the answer, and the bump afterwards.
pub record Takes (old : Bump) (layout : Layout) (answer : Result Chunk AllocationError) (new : Bump) : Type 0 where
  -- when exactly the request has each outcome
  pub accepted : IsOk answer ↔ ((0 < layout.size) × (chunk_end (chunk_at_or_after (old.region.start + old.used) layout)
      ≤ region_end old.region))
  pub size_is_zero : (answer ≡ Err SizeIsZero) ↔ (layout.size ≡ 0)
  pub out_of_memory : (answer ≡ Err OutOfMemory) ↔ ((0 < layout.size)
      × (region_end old.region < chunk_end (chunk_at_or_after (old.region.start + old.used) layout)))
  -- the chunk
  pub begins : IfOk answer (λ chunk. chunk.place ≡ least_place (old.region.start + old.used) layout.align)
  pub exact_size : IfOk answer (λ chunk. chunk.len ≡ layout.size)
  pub behind : IfOk answer (λ chunk. old.region.start + old.used ≤ chunk.place)
  -- afterwards the used part ends at the chunk's end; a refusal changes nothing
  pub used : IfOk answer (λ chunk. new.region.start + new.used ≡ chunk_end chunk)
  pub unchanged : OnErr answer (new ≡ old)

-- The effect of a release, whichever place it names: afterwards nothing is used, and the empty list
-- replaces each live list that the bump stood for.
pub record Frees (old new : Bump) : Type 0 where
  pub value : new ≡ bump_of old.region.start old.region.size 0
  pub released : (live : List Chunk) → StandsFor old.region old.used live → StandsFor new.region new.used []

-- the text that `Display` writes
abbrev pub bump_text : Bump → List ℕ
bump_text bump =
    codes "BumpAllocator { start: " ++ (decimal bump.region.start ++ (codes ", size: " ++ (decimal bump.region.size
    ++ (codes ", current_position: " ++ (decimal bump.used ++ codes " }")))))
