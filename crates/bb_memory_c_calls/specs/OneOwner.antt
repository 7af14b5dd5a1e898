-- The allocators with one owner, in handles: their answers to requests, and the figures that C gets.
use Rattle.bb_memory_bump.specs.Bump.{Bump, Takes as TakesOfBump}
use Rattle.bb_memory_c_calls.specs.Answers.{TellsResized, figure_of, grow_code, no_figure, not_held, shrink_code}
use Rattle.bb_memory_c_calls.specs.Calls.{Cutting, HasRoom}
use Rattle.bb_memory_c_calls.specs.declared.answer.Answer.{Answer}
use Rattle.bb_memory_c_calls.specs.declared.answer.BumpInfo.{BumpInfo}
use Rattle.bb_memory_c_calls.specs.declared.answer.Figure.{Figure}
use Rattle.bb_memory_c_calls.specs.declared.answer.OneChunkInfo.{OneChunkInfo}
use Rattle.bb_memory_c_calls.specs.declared.answer.PoolInfo.{PoolInfo}
use Rattle.bb_memory_index_set.specs.IndexSets.{index_words}
use Rattle.bb_memory_owned.specs.OneChunk.{OneChunk, Takes as TakesChunk}
use Rattle.bb_memory_owned.specs.Pool.{CountedPool, TakesBucket, counted, fresh_pool, held_count}
use Rattle.bb_memory_traits.specs.BumpObject.{MayAllocate, StandsFor}
use Rattle.bb_memory_traits.specs.Chunk.{Chunk, Region, first_place}
use Rattle.bb_memory_traits.specs.Geometry.{MayBeCut}
use Rattle.bb_memory_traits.specs.OneChunkObject.{MayGrow, MayShrink, reserved_at}
use Rattle.bb_memory_traits.specs.PoolObject.{IsCut, PoolGeometry}
use Rattle.bb_memory_traits.specs.declared.allocator.AllocationError.{AllocationError}
use Rattle.bb_memory_traits.specs.declared.layout.Layout.{Layout}
use Rattle.std.specs.Prelude.{IfOk, IsTrue, List, None, Option, Result, Some, [], ℕ, ◌%◌, ◌++◌, ◌-◌, ◌↔◌, ◌∷◌, ◌≡◌, ◌≤◌}

-- The answer that a bump gives to a request, and the bump after it.
pub record BumpAllocates (bump : Bump) (layout : Layout) (answer : Result Chunk AllocationError) (after : Bump) : Type 0 where
  -- the bump by its value
  pub value : TakesOfBump bump layout answer after
  pub region : after.region ≡ bump.region
  -- the bump as its object, for each live list that it represents
  pub object : (live : List Chunk) → StandsFor bump.region bump.used live → MayAllocate bump.region live layout answer
  pub appended : IfOk answer (λ chunk. (live : List Chunk) → StandsFor bump.region bump.used live
      → StandsFor after.region after.used (live ++ chunk ∷ []))

-- The answer that a one-chunk allocator gives to a request, and the allocator after it.
pub record OneChunkAllocates (one : OneChunk) (layout : Layout)
    (answer : Result Chunk AllocationError) (after : OneChunk) : Type 0 where
  pub value : TakesChunk one layout answer after
  pub region : after.region ≡ one.region

-- the handle holds a fresh pool over the region, cut into buckets of this layout
abbrev pub MakesPool : Region → Layout → Option CountedPool → Type 0
MakesPool region bucket new = (geometry : PoolGeometry)
    × IsCut region bucket geometry × (new ≡ Some (counted (fresh_pool geometry) 0 0))

-- how a pool over this region describes its initialization
abbrev pub cutting_pool : Region → Cutting CountedPool
cutting_pool region = record { may = MayBeCut region; room = HasRoom region; fresh = MakesPool region }

-- FIGURES

-- the figures of a bump over the region, with `used` bytes used
abbrev pub bump_info : Region → ℕ → BumpInfo
bump_info region used =
    record { start_address = region.start; used_space = used; free_space = region.size - used; total_space = region.size }

-- C gets the figures of a bump, which doesn't change
abbrev pub ShowsBump : Bump → BumpInfo → Bump → Type 0
ShowsBump bump info after = (info ≡ bump_info bump.region bump.used) × (after ≡ bump)

-- C gets the figures of a one-chunk allocator, which doesn't change.
pub record ShowsOneChunk (one : OneChunk) (info : OneChunkInfo) (after : OneChunk) : Type 0 where
  pub start_address : info.start_address ≡ one.region.start
  pub size : info.size ≡ one.region.size
  pub available : IsTrue info.has_chunk_available ↔ (one.kept ≡ None)
  pub unchanged : after ≡ one

-- C gets how many bytes are reserved for the chunk at this place, or BB_NOT_HELD if no chunk is
-- held there.
pub record TellsReserved (one : OneChunk) (place : ℕ) (told : Figure) : Type 0 where
  pub held : one.kept ≡ Some place → told ≡ figure_of (reserved_at one.region place)
  pub nothing : ¬ (one.kept ≡ Some place) → told ≡ no_figure not_held

-- C's answer to a grow of the chunk at this place from one layout to another
abbrev pub TellsGrow : OneChunk → ℕ → Answer → Layout → Layout → Type 0
TellsGrow one place told from to = TellsResized (one.kept ≡ Some place) (place % from.align ≡ 0) grow_code
    (MayGrow one.region place from to) told

-- C's answer to a shrink of the chunk at this place from one layout to another
abbrev pub TellsShrink : OneChunk → ℕ → Answer → Layout → Layout → Type 0
TellsShrink one place told from to = TellsResized (one.kept ≡ Some place)
    ((place % from.align ≡ 0) × (from.size ≤ reserved_at one.region place)) shrink_code (MayShrink place from to) told

-- the figures of a pool of this geometry, of which `held` buckets are held now and at most
-- `greatest` were held at one time
abbrev pub pool_info : PoolGeometry → ℕ → ℕ → PoolInfo
pool_info geometry held greatest = record {
  start_address = first_place geometry.region geometry.bucket;
  size = geometry.region.size;
  bucket_size = geometry.bucket.size;
  max_alignment = geometry.bucket.align;
  number_of_buckets = geometry.buckets;
  held_buckets = held;
  greatest_held = greatest;
}

-- C gets the figures of a pool, which doesn't change
abbrev pub ShowsPool : CountedPool → PoolInfo → CountedPool → Type 0
ShowsPool pool info after = (info ≡ pool_info pool.pool.geometry (held_count pool.pool) pool.greatest) × (after ≡ pool)

-- the answer that a pool gives to a request, and the pool after it
abbrev pub PoolAllocates : CountedPool → Layout → Result Chunk AllocationError → CountedPool → Type 0
PoolAllocates pool layout answer after = TakesBucket pool layout answer after (index_words pool.pool.geometry.buckets)
