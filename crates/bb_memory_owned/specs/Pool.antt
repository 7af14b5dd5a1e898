-- A pool, as its contracts see it.
use Rattle.bb_memory_index_set.specs.IndexSets.{Has, IsFull, Lacks, member_count}
use Rattle.bb_memory_lists.proofs.Positions.{All-at}
use Rattle.bb_memory_traits.specs.Chunk.{Chunk, IsRegion, IsSound}
use Rattle.bb_memory_traits.specs.Geometry.{AreAStrideApart, MayBeCut}
use Rattle.bb_memory_traits.specs.Object.{PlacesDiffer, note_after_run}
use Rattle.bb_memory_traits.specs.PoolObject.{IsCut, IsHeld, IsPoolGeometry, IsWithin, MayAllocate, PoolGeometry, bucket_place, chunk_in}
use Rattle.bb_memory_traits.specs.Request.{Requested}
use Rattle.bb_memory_traits.specs.declared.allocator.AllocationError.{AllocationError}
use Rattle.bb_memory_traits.specs.declared.allocator.AllocationError.TheVariants.{AlignmentFailure, OutOfMemory, SizeIsZero, SizeTooLarge}
use Rattle.bb_memory_traits.specs.declared.allocator.Command.{Command}
use Rattle.bb_memory_traits.specs.declared.layout.Layout.{Layout}
use Rattle.std.proofs.Common.{ap, arith, sym, ◌∙◌}
use Rattle.std.proofs.lemmas.Bool.{and_parts, eq-eqb, eqb-true}
use Rattle.std.proofs.lemmas.List.Folds.{Any-from_list_any, list_any_at}
use Rattle.std.proofs.lemmas.List.FromFn.{get_or-range_with_len, length-range_with_len}
use Rattle.std.proofs.lemmas.Option.{get_or_from_slice_get, slice_get-get_or, slice_get_within}
use Rattle.std.specs.Cmp.Derive.{both_true}
use Rattle.std.specs.List.{list_any, range_with_len}
use Rattle.std.specs.Prelude.{All, Bool, Err, IfOk, IsOk, List, Ok, OnErr, Result, Some, false, get_or, if◌then◌else◌, length, max, min, nat_eq, nat_le, replicate, slice_get, slice_set, true, ℕ, ◌%◌, ◌&&◌, ◌+◌, ◌<◌, ◌↔◌, ◌≡◌, ◌≢◌, ◌≤◌}

-- a pool: where its buckets are, and which of them are held
pub record Pool : Type 0 where
  pub geometry : PoolGeometry
  pub held : List Bool

-- the pool with these buckets, of which those with a true flag are held
abbrev pub pool_of : PoolGeometry → List Bool → Pool
pool_of geometry held = record { geometry = geometry; held = held }

-- the pool with these buckets, none of which is held
abbrev pub fresh_pool : PoolGeometry → Pool
fresh_pool geometry = pool_of geometry (replicate geometry.buckets false)

-- The invariant of a pool: its buckets are inside a valid region, and there is one flag for each
-- bucket.
pub record IsPool (pool : Pool) : Type 0 where
  pub region : IsRegion pool.geometry.region
  pub geometry : IsPoolGeometry pool.geometry
  pub flags : length pool.held ≡ pool.geometry.buckets

-- MAKING

-- the geometry of an uninitialized pool: the region may be cut into such buckets, and is cut into
-- all that it has room for
pub record IsUninit (geometry : PoolGeometry) : Type 0 where
  pub may : MayBeCut geometry.region geometry.bucket
  pub cut : IsCut geometry.region geometry.bucket geometry

-- LIVE LISTS

-- the chunk is in bucket i, which is held, and is no longer than a bucket
pub record Fills (pool : Pool) (chunk : Chunk) (i : ℕ) : Type 0 where
  pub held : Has pool.held i
  pub placed : chunk.place ≡ bucket_place pool.geometry i
  pub short : chunk.len ≤ pool.geometry.bucket.size

-- The pool stands for this live list: each chunk is in a held bucket, no two chunks are in the same
-- one, and each held bucket has its chunk.
pub record StandsFor (pool : Pool) (live : List Chunk) : Type 0 where
  pub sound : IsSound pool.geometry.region live
  pub filled : All (λ chunk. (i : ℕ) × Fills pool chunk i) live
  pub differ : PlacesDiffer live
  pub held : (i : ℕ) → Has pool.held i → IsHeld pool.geometry live i

-- bucket i is held, and begins at the place
abbrev pub begins_held : Pool → ℕ → ℕ → Bool
begins_held pool place i = get_or pool.held i false && nat_eq place (bucket_place pool.geometry i)

-- a held bucket begins at the place, as a flag
unfoldable pub holds_place : Pool → ℕ → Bool
holds_place pool place = list_any (begins_held pool place) (range_with_len 0 (length pool.held))

-- a held bucket begins at the place
abbrev pub HoldsPlace : Pool → ℕ → Type 0
HoldsPlace pool place = holds_place pool place ≡ true

-- CALLS

-- the pool in which bucket i becomes held or free, by this flag
abbrev pub with_flag : Pool → ℕ → Bool → Pool
with_flag pool i flag = pool_of pool.geometry (slice_set pool.held i flag)

-- The answers that a pool may give to a request, and the pool after it. Any free bucket may be
-- allocated; a refusal changes nothing.
abbrev pub Takes : Pool → Layout → Result Chunk AllocationError → Pool → Type 0
Takes pool layout (Ok chunk) new =
    (i : ℕ) × IsWithin pool.geometry.bucket layout × Lacks pool.held i
    × (chunk ≡ chunk_in pool.geometry i layout) × (new ≡ with_flag pool i true)
Takes pool layout (Err SizeTooLarge) new = (pool.geometry.bucket.size < layout.size) × (new ≡ pool)
Takes pool layout (Err AlignmentFailure) new =
    (layout.size ≤ pool.geometry.bucket.size) × (pool.geometry.bucket.align < layout.align) × (new ≡ pool)
Takes pool layout (Err OutOfMemory) new = IsWithin pool.geometry.bucket layout × IsFull pool.held × (new ≡ pool)
-- a pool never refuses for this reason
Takes pool layout (Err SizeIsZero) new = ⊥

-- the held bucket at the place becomes free, and no other bucket changes
abbrev pub Frees : Pool → ℕ → Pool → Type 0
Frees pool place new = (i : ℕ) → Has pool.held i → place ≡ bucket_place pool.geometry i → new ≡ with_flag pool i false

-- how many buckets are held
abbrev pub held_count : Pool → ℕ
held_count pool = member_count pool.held

-- a pool, how many index words its last request read, and the greatest number of buckets that were
-- held at one time so far
pub record CountedPool : Type 0 where
  pub pool : Pool
  pub reads : ℕ
  pub greatest : ℕ

-- the pool with this number of reads and this greatest number of held buckets
abbrev pub counted : Pool → ℕ → ℕ → CountedPool
counted pool reads greatest = record { pool = pool; reads = reads; greatest = greatest }

-- The effect of a request on the value of a pool with `words` index words: the answer, and the pool
-- afterwards.
pub record TakesBucket (old : CountedPool) (layout : Layout) (answer : Result Chunk AllocationError)
    (new : CountedPool) (words : ℕ) : Type 0 where
  -- the bucket that is held afterwards, or the reason for the refusal; there is no other reason
  pub taken : Takes old.pool layout answer new.pool
  pub accepted : IsOk answer ↔ (IsWithin old.pool.geometry.bucket layout × ((i : ℕ) × Lacks old.pool.held i))
  pub pool_unchanged : OnErr answer (new.pool ≡ old.pool)
  pub was_free : IfOk answer (λ chunk. ¬ HoldsPlace old.pool chunk.place)
  pub apart : IfOk answer (λ chunk. (place : ℕ) → HoldsPlace old.pool place
      → AreAStrideApart old.pool.geometry.bucket place chunk.place)
  pub others_kept : (place : ℕ) → HoldsPlace old.pool place → HoldsPlace new.pool place
  pub bucket_aligned : IfOk answer (λ chunk. chunk.place % old.pool.geometry.bucket.align ≡ 0)
  -- an allocated bucket counts as held; a refusal counts nothing
  pub one_more : IfOk answer (λ chunk. held_count new.pool ≡ held_count old.pool + 1)
  pub greatest : new.greatest ≡ max old.greatest (held_count new.pool)
  pub greatest_unchanged : OnErr answer (new.greatest ≡ old.greatest)
  pub one_read : IsWithin old.pool.geometry.bucket layout → 0 < words → new.reads ≡ 1
  -- if no reads are counted, a refusal changes nothing
  pub uncounted : words ≡ 0 → new.reads ≡ old.reads
  pub unchanged : words ≡ 0 → OnErr answer (new ≡ old)

-- how many of `words` index words a request for the layout reads: one if there is one, and none if
-- the request is refused by its size or alignment
abbrev pub reads_of : Layout → ℕ → Layout → ℕ
reads_of bucket words layout = if nat_le layout.size bucket.size && nat_le layout.align bucket.align then min words 1 else 0

-- All that a pool of `words` index words promises about a request for this layout.
abbrev pub Allocates : CountedPool → Layout → Result Chunk AllocationError → CountedPool → ℕ → Type 0
Allocates old layout answer new words = Requested (record {
  stands_for = λ pool. StandsFor pool.pool;
  may_release = λ pool. HoldsPlace pool.pool;
  geometry = λ pool. pool.pool.geometry;
  region_of = λ geometry. geometry.region;
  may_allocate = MayAllocate;
  note = λ pool. pool.reads;
  note_after = λ geometry asked before. reads_of geometry.bucket words asked;
  takes = λ before asked told after. TakesBucket before asked told after words;
}) old layout answer new

-- The effect of a release on the value of a pool: the bucket, which was held, is free afterwards,
-- so one bucket fewer is held. Each other place is held or free as before, and the greatest number
-- of held buckets is unchanged.
pub record FreesBucket (old : CountedPool) (place : ℕ) (new : CountedPool) : Type 0 where
  pub freed : Frees old.pool place new.pool
  pub others_kept : (other : ℕ) → HoldsPlace old.pool other → other ≢ place → HoldsPlace new.pool other
  pub others_free : (other : ℕ) → ¬ HoldsPlace old.pool other → ¬ HoldsPlace new.pool other
  pub given_back : ¬ HoldsPlace new.pool place
  pub room : (i : ℕ) × Lacks new.pool.held i
  pub one_less : held_count old.pool ≡ held_count new.pool + 1
  pub greatest : new.greatest ≡ old.greatest

-- INDEX WORDS

-- how many index words the last request of these commands reads, or `before` if there is no request
abbrev pub reads_after : Layout → ℕ → ℕ → List Command → ℕ
reads_after bucket words before commands = note_after_run (λ layout reads. reads_of bucket words layout) before commands

-- LAWS OF HELD BUCKETS AND THEIR PLACES

-- a held place is that of a held bucket
pub bucket_held_at : (pool : Pool) (place : ℕ) → HoldsPlace pool place →
    (i : ℕ) × Has pool.held i × (place ≡ bucket_place pool.geometry i)
unfolding holds_place
bucket_held_at pool place holds =
    let count : ℕ = length pool.held in
    let (k, i, within, at, is) = Any-from_list_any (begins_held pool place) (range_with_len 0 count) holds in
    let below : k < count = omega (arith, within, length-range_with_len 0 count) in
    let number : i ≡ k = omega (arith, at, get_or-range_with_len 0 count k i below) in
    let answers = and_parts (get_or pool.held i false) (nat_eq place (bucket_place pool.geometry i)) is in (
      i,
      slice_get-get_or pool.held i false (omega (arith, below, number)) ∙ ap Some answers.0,
      eqb-true place (bucket_place pool.geometry i) answers.1,
    )

-- a held bucket's place is held
pub held_at_bucket : (pool : Pool) (place i : ℕ) → Has pool.held i → place ≡ bucket_place pool.geometry i → HoldsPlace pool place
unfolding holds_place
held_at_bucket pool place i has there =
    let count : ℕ = length pool.held in
    let below : i < count = slice_get_within pool.held i true has in
    let begins : begins_held pool place i ≡ true =
    both_true (get_or_from_slice_get pool.held i true false has) (eq-eqb place (bucket_place pool.geometry i) there) in
    list_any_at (begins_held pool place) (range_with_len 0 count) i 0 (omega (arith, below, length-range_with_len 0 count))
    (let e : get_or (range_with_len 0 count) i 0 ≡ i = omega (arith, get_or-range_with_len 0 count i 0 below) in rw e begins)

-- LAWS OF LIVE LISTS

-- a chunk at a position of the list is in a held bucket, and has that bucket's place
pub filled-at : (pool : Pool) (live : List Chunk) → StandsFor pool live → (position : ℕ) (chunk : Chunk) →
    slice_get live position ≡ Some chunk → (i : ℕ) × Fills pool chunk i
filled-at pool live stands position chunk at = All-at (λ c. (i : ℕ) × Fills pool c i) live stands.filled position chunk at

-- a live chunk's place is held
pub held_place : (pool : Pool) (live : List Chunk) (position : ℕ) (chunk : Chunk) →
    StandsFor pool live → slice_get live position ≡ Some chunk → HoldsPlace pool chunk.place
held_place pool live position chunk stands at =
    let (i, fills) = filled-at pool live stands position chunk at in held_at_bucket pool chunk.place i fills.held fills.placed

-- a live chunk is no longer than a bucket
pub covered : (pool : Pool) (live : List Chunk) (position : ℕ) (chunk : Chunk) →
    StandsFor pool live → slice_get live position ≡ Some chunk → chunk.len ≤ pool.geometry.bucket.size
covered pool live position chunk stands at = (filled-at pool live stands position chunk at).1.short

-- a held bucket's place is that of a live chunk
pub held_is_live : (pool : Pool) (live : List Chunk) (place : ℕ) →
    StandsFor pool live → HoldsPlace pool place → (position : ℕ) × (chunk : Chunk)
    × (slice_get live position ≡ Some chunk) × (chunk.place ≡ place)
held_is_live pool live place stands holds =
    let at = bucket_held_at pool place holds in
    let held = stands.held at.0 at.1 in
    (held.0, held.1.chunk, held.1.there, held.1.placed ∙ sym at.2)
