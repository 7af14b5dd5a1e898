-- The live lists that a pool stands for: where their chunks are, and the results of releases and
-- runs of the pool object.
use Rattle.bb_memory_index_set.proofs.NumberSets.{has_or_lacks}
use Rattle.bb_memory_index_set.specs.IndexSets.{Lacks}
use Rattle.bb_memory_lists.proofs.Positions.{All-from_positions, AllPairs-at, AllPairs-from_positions}
use Rattle.bb_memory_lists.proofs.SliceGets.{slice_get-set_same}
use Rattle.bb_memory_owned.proofs.KeptRuns.{IsKept, base_run_keeps, run_keeps}
use Rattle.bb_memory_owned.proofs.Pools.{IsPool-with_flag, bucket-below, lacked-free, stands-freed, stands-given, stands-resized}
use Rattle.bb_memory_owned.specs.Pool.{IsPool, Pool, StandsFor, filled-at, pool_of, with_flag}
use Rattle.bb_memory_traits.proofs.PoolGeometries.{bucket_place-after, bucket_place-aligned}
use Rattle.bb_memory_traits.specs.Chunk.{Chunk}
use Rattle.bb_memory_traits.specs.Geometry.{AreAStrideApart}
use Rattle.bb_memory_traits.specs.Object.{IsRun, ResizableStep, Step}
use Rattle.bb_memory_traits.specs.PoolObject.{IsWithin, MayAllocate, PoolGeometry, bucket_place, pool_object}
use Rattle.bb_memory_traits.specs.declared.allocator.AllocationError.{AllocationError}
use Rattle.bb_memory_traits.specs.declared.allocator.AllocationError.TheVariants.{AlignmentFailure, OutOfMemory, SizeIsZero, SizeTooLarge}
use Rattle.bb_memory_traits.specs.declared.allocator.Command.{Command}
use Rattle.bb_memory_traits.specs.declared.allocator.Reply.{Reply}
use Rattle.bb_memory_traits.specs.declared.layout.Layout.{Layout}
use Rattle.std.proofs.Common.{Bool, Err, List, Ok, Result, Some, ap, arith, false, get_or, inl, inr, length, refl, sym, true, ℕ, ◌%◌, ◌<◌, ◌∙◌, ◌≡◌, ◌≢◌, ◌≤◌}
use Rattle.std.proofs.lemmas.Bool.{cases_lt}
use Rattle.std.proofs.lemmas.Option.{slice_get-get_or}
use Rattle.std.specs.Prelude.{All, AllPairs, IsOk, remove, slice_get, slice_set}

-- PLACES

-- each chunk begins at a multiple of the bucket's alignment
pub places-aligned : (pool : Pool) (live : List Chunk) → StandsFor pool live →
    All (λ chunk. chunk.place % pool.geometry.bucket.align ≡ 0) live
places-aligned pool live stands =
    let align : ℕ = pool.geometry.bucket.align in
    All-from_positions (λ (c : Chunk). c.place % align ≡ 0) live (λ position chunk at.
    let fills = filled-at pool live stands position chunk at in
    ap (λ n. n % align) fills.1.placed ∙ bucket_place-aligned pool.geometry fills.0)

-- chunks in two buckets are a stride apart
buckets-apart : (geometry : PoolGeometry) (i j : ℕ) (one other : Chunk) → one.place ≡ bucket_place geometry i →
    other.place ≡ bucket_place geometry j → one.place ≢ other.place → AreAStrideApart geometry.bucket one.place other.place
buckets-apart geometry i j one other at_i at_j differ =
    elim (cases_lt i j) [
      | inl below ↦ inl (omega (arith, bucket_place-after geometry i j below, at_i, at_j))
      | inr above ↦ elim (cases_lt j i) [
        | inl more ↦ inr (omega (arith, bucket_place-after geometry j i more, at_i, at_j))
        | inr less ↦
            let same : i ≡ j = omega arith in
            absurd (differ (at_i ∙ ap (bucket_place geometry) same ∙ sym at_j))
      ]
    ]

-- any two chunks are a stride apart
pub places-a_stride_apart : (pool : Pool) (live : List Chunk) → StandsFor pool live →
    AllPairs (λ one other. AreAStrideApart pool.geometry.bucket one.place other.place) live
places-a_stride_apart pool live stands =
    AllPairs-from_positions (λ (one other : Chunk). AreAStrideApart pool.geometry.bucket one.place other.place) live
    (λ i j one other before at_i at_j.
    let first = filled-at pool live stands i one at_i in
    let second = filled-at pool live stands j other at_j in
    let differ = AllPairs-at (λ (c d : Chunk). c.place ≢ d.place) live stands.differ i j one other before at_i at_j in
    buckets-apart pool.geometry first.0 second.0 one other first.1.placed second.1.placed differ)

-- RELEASES

-- if a chunk was just given back, each request that fits a bucket gets one
pub released-room : (pool : Pool) (live : List Chunk) (position : ℕ) (layout : Layout) (answer : Result Chunk AllocationError) →
    IsPool pool → StandsFor pool live → position < length live → IsWithin pool.geometry.bucket layout →
    MayAllocate pool.geometry (remove live position) layout answer → IsOk answer
released-room pool live position layout (Ok chunk) is stands there within may = refl
released-room pool live position layout (Err SizeTooLarge) is stands there within may =
    absurd (let small = within.size in omega (arith, may))
released-room pool live position layout (Err AlignmentFailure) is stands there within may =
    absurd (let fine = within.align in omega (arith, may.1))
released-room pool live position layout (Err OutOfMemory) is stands there within may =
    let none : Chunk = record { place = 0; len = 0 } in
    let at = slice_get-get_or live position none there in
    let chunk : Chunk = get_or live position none in
    let fills = filled-at pool live stands position chunk at in
    let left : Pool = with_flag pool fills.0 false in
    let lacks : Lacks left.held fills.0 = slice_get-set_same pool.held fills.0 false true fills.1.held in
    let stands_left = stands-freed pool live position fills.0 chunk is stands at fills.1 in
    absurd (lacked-free left (remove live position) (IsPool-with_flag pool is fills.0 false) stands_left fills.0 lacks
    (may.1 fills.0 (bucket-below pool is fills.0 true fills.1.held)))
released-room pool live position layout (Err SizeIsZero) is stands there within may = absurd may

-- RUNS

-- some pool of the geometry stands for this list
record IsPoolList (geometry : PoolGeometry) (live : List Chunk) : Type 0 where
  held : List Bool
  is : IsPool (pool_of geometry held)
  stands : StandsFor (pool_of geometry held) live

released_list : (geometry : PoolGeometry) (live : List Chunk) (position : ℕ) → IsPoolList geometry live →
    position < length live → IsPoolList geometry (remove live position)
released_list geometry live position list there =
    let pool : Pool = pool_of geometry list.held in
    let none : Chunk = record { place = 0; len = 0 } in
    let at = slice_get-get_or live position none there in
    let fills = filled-at pool live list.stands position (get_or live position none) at in
    record {
      held = slice_set list.held fills.0 false;
      is = IsPool-with_flag pool list.is fills.0 false;
      stands = stands-freed pool live position fills.0 (get_or live position none) list.is list.stands at fills.1;
    }

resized_list : (geometry : PoolGeometry) (live : List Chunk) (position : ℕ) (chunk resized : Chunk) →
    IsPoolList geometry live → slice_get live position ≡ Some chunk → resized.place ≡ chunk.place →
    resized.len ≤ geometry.bucket.size → IsPoolList geometry (slice_set live position resized)
resized_list geometry live position chunk resized list at place short = record {
  held = list.held;
  is = list.is;
  stands = stands-resized (pool_of geometry list.held) live position chunk resized list.is list.stands at place short;
}

-- each step leads from a list that a pool stands for to another such list
kept_lists : (geometry : PoolGeometry) → IsKept (pool_object geometry) (IsPoolList geometry)
kept_lists geometry = record {
  given = λ live layout chunk list (i, may, given).
      elim (has_or_lacks list.held i (let below = may.bucket in omega (arith, list.is.flags))) [
        | inl has ↦ absurd (may.free (list.stands.held i has))
        | inr lacks ↦ rw given record {
          held = slice_set list.held i true;
          is = IsPool-with_flag (pool_of geometry list.held) list.is i true;
          stands = stands-given (pool_of geometry list.held) live layout i list.is list.stands may.within lacks;
        }
      ];
  left = released_list geometry;
  grown = λ live position chunk resized from to list may told place.
      let small = told.2 in
      resized_list geometry live position chunk resized list may.at place (omega (arith, ap (λ (c : Chunk). c.len) told.3));
  shrunk = λ live position chunk resized from to list may told place.
      resized_list geometry live position chunk resized list may.grown.at place
      (let reserved : from.size ≤ geometry.bucket.size = may.within in
      omega (arith, told.0, reserved, ap (λ (c : Chunk). c.len) told.2));
}

-- each run from a list that a pool stands for leads to another such list, with resizes or without
module _ (pool : Pool) (live new : List Chunk) (commands : List Command) (replies : List Reply) (is : IsPool pool)
    (stands : StandsFor pool live) where
  from : IsPoolList pool.geometry live
  from = record { held = pool.held; is = is; stands = stands }

  left : IsPoolList pool.geometry new → (left : Pool) × IsPool left × (left.geometry ≡ pool.geometry) × StandsFor left new
  left to = (pool_of pool.geometry to.held, to.is, refl, to.stands)

  pub run-keeps : IsRun (ResizableStep (pool_object pool.geometry)) live commands replies new →
      (left : Pool) × IsPool left × (left.geometry ≡ pool.geometry) × StandsFor left new
  run-keeps run = left (run_keeps _ _ (kept_lists pool.geometry) live new commands replies from run)

  pub base_run-keeps : IsRun (Step (pool_object pool.geometry).base) live commands replies new →
      (left : Pool) × IsPool left × (left.geometry ≡ pool.geometry) × StandsFor left new
  base_run-keeps run = left (base_run_keeps _ _ (kept_lists pool.geometry) live new commands replies from run)
