-- The live lists that a pool stands for: with no chunk, with one more, with one fewer, and with one
-- resized.
use Rattle.bb_memory_index_set.proofs.LastFreed.{given}
use Rattle.bb_memory_index_set.proofs.Tallies.{member_count-released, some_member}
use Rattle.bb_memory_index_set.specs.IndexSets.{Has, Lacks}
use Rattle.bb_memory_lists.proofs.Positions.{All-from_positions, AllPairs-at, AllPairs-from_positions, slice_get-removed, slice_get-unremoved}
use Rattle.bb_memory_lists.proofs.SliceGets.{length-set_at, slice_get-last, slice_get-push, slice_get-replicated, slice_get-set, slice_get-set_other, slice_get-set_same}
use Rattle.bb_memory_owned.specs.Pool.{Fills, HoldsPlace, IsPool, Pool, StandsFor, bucket_held_at, filled-at, fresh_pool, held_count, pool_of, with_flag}
use Rattle.bb_memory_traits.proofs.PoolGeometries.{bucket_place-apart}
use Rattle.bb_memory_traits.proofs.PoolLists.{AreInBuckets-from_places, IsInBucket, inside_from_bucket, sound_from_buckets}
use Rattle.bb_memory_traits.specs.Chunk.{Chunk, IsInside}
use Rattle.bb_memory_traits.specs.Object.{PlacesDiffer}
use Rattle.bb_memory_traits.specs.PoolObject.{IsAt, IsHeld, IsPoolGeometry, IsWithin, PoolGeometry, bucket_place, chunk_in}
use Rattle.bb_memory_traits.specs.declared.layout.Layout.{Layout}
use Rattle.std.proofs.Common.{Bool, List, Some, [], ap, arith, false, inl, inr, length, refl, subst, suc, sym, true, zero, ℕ, ◌++◌, ◌<◌, ◌∙◌, ◌∷◌, ◌≡◌, ◌≢◌, ◌≤◌}
use Rattle.std.proofs.lemmas.Bool.{cases_eq, cases_lt}
use Rattle.std.proofs.lemmas.List.Elements.{All-push}
use Rattle.std.proofs.lemmas.List.Quantifiers.{all_pairs_push, all_pairs_remove}
use Rattle.std.proofs.lemmas.Option.{same_Some, slice_get-get_or, slice_get_within}
use Rattle.std.specs.Prelude.{All, remove, slice_get, slice_set}

-- BUCKETS

-- a held bucket is one of the pool's
pub bucket-below : (pool : Pool) → IsPool pool → (i : ℕ) (flag : Bool) → slice_get pool.held i ≡ Some flag →
    i < pool.geometry.buckets
bucket-below pool is i flag at = omega (arith, is.flags, slice_get_within pool.held i flag at)

-- a bucket has one number
pub one_bucket : (geometry : PoolGeometry) → IsPoolGeometry geometry → (i j : ℕ) →
    bucket_place geometry i ≡ bucket_place geometry j → i ≡ j
one_bucket geometry is i j same = elim (cases_eq i j) [
  | inl equal ↦ equal
  | inr apart ↦ absurd (bucket_place-apart geometry is i j apart same)
]

in_bucket : (pool : Pool) → IsPool pool → (chunk : Chunk) → (i : ℕ) × Fills pool chunk i →
    IsInBucket pool.geometry chunk
in_bucket pool is chunk (i, fills) =
    record { bucket = i; below = bucket-below pool is i true fills.held; placed = fills.placed; short = fills.short }

-- a chunk at the place of a held bucket, and no longer than that, is inside the region
pub held-inside : (pool : Pool) → IsPool pool → (chunk : Chunk) → HoldsPlace pool chunk.place →
    chunk.len ≤ pool.geometry.bucket.size → IsInside pool.geometry.region chunk
held-inside pool is chunk holds short =
    let at = bucket_held_at pool chunk.place holds in
    inside_from_bucket pool.geometry is.geometry chunk
    (in_bucket pool is chunk (at.0, record { held = at.1; placed = at.2; short = short }))

-- the pool with a flag set is a pool
pub IsPool-with_flag : (pool : Pool) → IsPool pool → (i : ℕ) (flag : Bool) → IsPool (with_flag pool i flag)
IsPool-with_flag pool is i flag = record {
  region = is.region;
  geometry = is.geometry;
  flags = length-set_at pool.held i flag ∙ is.flags;
}

-- a held bucket's place is that of one of the buckets
pub held_bucket_below : (pool : Pool) (place : ℕ) → length pool.held ≡ pool.geometry.buckets → HoldsPlace pool place →
    (i : ℕ) × (i < pool.geometry.buckets) × (place ≡ bucket_place pool.geometry i)
held_bucket_below pool place flags holds =
    let (i, has, there) = bucket_held_at pool place holds in
    (i, omega (arith, slice_get_within pool.held i true has, flags), there)

-- LISTS

-- a pool stands for a list if the list's chunks are in held buckets, no two in one, and each held
-- bucket has one
pub stands_from : (pool : Pool) → IsPool pool → (live : List Chunk) → All (λ chunk. (i : ℕ) × Fills pool chunk i) live →
    PlacesDiffer live → ((i : ℕ) → Has pool.held i → IsHeld pool.geometry live i) → StandsFor pool live
stands_from pool is live filled differ held =
    let each : All (IsInBucket pool.geometry) live = λ k d within. in_bucket pool is _ (filled k d within) in
    record {
      sound = sound_from_buckets pool.geometry is.geometry live (AreInBuckets-from_places pool.geometry live each differ);
      filled = filled;
      differ = differ;
      held = held;
    }

-- chunks at two positions have two places
places-apart : (live : List Chunk) → PlacesDiffer live → (i j : ℕ) (one other : Chunk) → i ≢ j →
    slice_get live i ≡ Some one → slice_get live j ≡ Some other → one.place ≢ other.place
places-apart live differ i j one other apart at_i at_j same =
    let R : Chunk → Chunk → Type 0 = λ c d. c.place ≢ d.place in
    elim (cases_lt i j) [
      | inl below ↦ AllPairs-at R live differ i j one other below at_i at_j same
      | inr above ↦ AllPairs-at R live differ j i other one (omega arith) at_j at_i (sym same)
    ]

-- no chunk is in a bucket that isn't held
pub lacked-free : (pool : Pool) (live : List Chunk) → IsPool pool → StandsFor pool live → (i : ℕ) → Lacks pool.held i →
    ¬ IsHeld pool.geometry live i
lacked-free pool live is stands i lacks (position, at) =
    let fills = filled-at pool live stands position at.chunk at.there in
    let same : fills.0 ≡ i = one_bucket pool.geometry is.geometry fills.0 i (sym fills.1.placed ∙ at.placed) in
    let held : slice_get pool.held i ≡ Some true = ap (slice_get pool.held) (sym same) ∙ fills.1.held in
    absurd (let e : Some true ≡ Some false = sym held ∙ lacks in cc)

-- NO CHUNK

pub empty-stands : (pool : Pool) → ((i : ℕ) → ¬ Has pool.held i) → StandsFor pool []
empty-stands pool none = record {
  sound = record { inside = λ k d within. absurd (omega arith); apart = λ i j d before within. absurd (omega arith) };
  filled = λ k d within. absurd (omega arith);
  differ = λ i j d before within. absurd (omega arith);
  held = λ i held. absurd (none i held);
}

pub fresh-stands : (geometry : PoolGeometry) → StandsFor (fresh_pool geometry) []
fresh-stands geometry =
    empty-stands (fresh_pool geometry) (λ i held. let e = slice_get-replicated geometry.buckets i false true held in cc)

-- ONE MORE

-- a number that was in the set is still in it after another is put in
pub Has-set_true : (held : List Bool) (i j : ℕ) → Lacks held i → Has held j → Has (slice_set held i true) j
Has-set_true held i j lacks has = elim (cases_eq j i) [
  | inl same ↦ absurd (let e : Some true ≡ Some false = sym has ∙ (ap (slice_get held) same ∙ lacks) in cc)
  | inr apart ↦ slice_get-set_other held i j true apart ∙ has
]

-- a bucket that wasn't held is given
pub stands-given : (pool : Pool) (live : List Chunk) (layout : Layout) (i : ℕ) → IsPool pool → StandsFor pool live →
    IsWithin pool.geometry.bucket layout → Lacks pool.held i →
    StandsFor (with_flag pool i true) (live ++ chunk_in pool.geometry i layout ∷ [])
stands-given pool live layout i is stands within lacks =
    let chunk : Chunk = chunk_in pool.geometry i layout in
    let new : Pool = with_flag pool i true in
    let InNew : Chunk → Type 0 = λ c. (j : ℕ) × Fills new c j in
    let here : Has new.held i = slice_get-set_same pool.held i true false lacks in
    let old : All InNew live = λ k d below.
    let fills = stands.filled k d below in (
      fills.0,
      record {
        held = Has-set_true pool.held i fills.0 lacks fills.1.held;
        placed = fills.1.placed;
        short = fills.1.short;
      },
    ) in
    let filled : All InNew (live ++ chunk ∷ []) =
    All-push InNew live chunk old (i, record { held = here; placed = refl; short = within.size }) in
    let differ : PlacesDiffer (live ++ chunk ∷ []) =
    all_pairs_push (λ (one other : Chunk). one.place ≢ other.place) live chunk stands.differ
    (λ k d below same. lacked-free pool live is stands i lacks
    (k, record { chunk = _; there = slice_get-get_or live k d below; placed = same })) in
    stands_from new (IsPool-with_flag pool is i true) (live ++ chunk ∷ []) filled differ (λ j has.
    elim (slice_get-set pool.held i j true true has) [
      | inl was ↦
          let at = stands.held j was in (
            at.0,
            record {
              chunk = at.1.chunk;
              there = slice_get-push live at.0 at.1.chunk chunk at.1.there;
              placed = at.1.placed;
            },
          )
      | inr now ↦ (
        length live,
        record { chunk = chunk; there = slice_get-last live chunk; placed = ap (bucket_place pool.geometry) (sym now.0) },
      )
    ])

-- each pool stands for some list: a chunk of a bucket's length in each bucket that is held
stands_for_count : (n : ℕ) (pool : Pool) → IsPool pool → held_count pool ≡ n → (live : List Chunk) × StandsFor pool live
stands_for_count zero pool is none =
    ([], empty-stands pool (λ i has. absurd (omega (arith, none, member_count-released pool.held i has))))
stands_for_count (suc n) pool is some =
    let (i, has) = some_member pool.held (omega (arith, some)) in
    let (lacks, same) = given pool.held _ i refl has in
    let left = IsPool-with_flag pool is i false in
    let (live, stands) = stands_for_count n (with_flag pool i false) left
    (omega (arith, some, member_count-released pool.held i has)) in
    let bucket = pool.geometry.bucket in (
      live ++ chunk_in pool.geometry i bucket ∷ [],
      subst (λ held. StandsFor (pool_of pool.geometry held) (live ++ chunk_in pool.geometry i bucket ∷ [])) (sym same)
          (stands-given (with_flag pool i false) live bucket i left stands (record { size = omega arith; align = omega arith })
          lacks),
    )

pub stands_for_some : (pool : Pool) → IsPool pool → (live : List Chunk) × StandsFor pool live
stands_for_some pool is = stands_for_count (held_count pool) pool is refl

-- ONE LESS

-- the chunk at a position is given back
pub stands-freed : (pool : Pool) (live : List Chunk) (position i : ℕ) (chunk : Chunk) → IsPool pool → StandsFor pool live →
    slice_get live position ≡ Some chunk → Fills pool chunk i → StandsFor (with_flag pool i false) (remove live position)
stands-freed pool live position i chunk is stands at fills =
    let new : Pool = with_flag pool i false in
    let here : slice_get new.held i ≡ Some false = slice_get-set_same pool.held i false true fills.held in
    let filled : All (λ (c : Chunk). (j : ℕ) × Fills new c j) (remove live position) =
    All-from_positions (λ (c : Chunk). (j : ℕ) × Fills new c j) (remove live position) (λ k other there.
    let (before, elsewhere, was_there) = slice_get-removed live position k other there in
    let (j, filled) = filled-at pool live stands before other was_there in
    let apart : j ≢ i = λ same. places-apart live stands.differ before position other chunk elsewhere was_there at
    (filled.placed ∙ ap (bucket_place pool.geometry) same ∙ sym fills.placed) in (
      j,
      record {
        held = slice_get-set_other pool.held i j false apart ∙ filled.held;
        placed = filled.placed;
        short = filled.short;
      },
    )) in
    let differ : PlacesDiffer (remove live position) =
    all_pairs_remove (λ (one other : Chunk). one.place ≢ other.place) live position
    (slice_get_within live position chunk at) stands.differ in
    stands_from new (IsPool-with_flag pool is i false) (remove live position) filled differ (λ j has.
    elim (cases_eq j i) [
      | inl same ↦ absurd (let e : Some true ≡ Some false = sym has ∙ (ap (slice_get new.held) same ∙ here) in cc)
      | inr apart ↦
          let (before, was) = stands.held j (sym (slice_get-set_other pool.held i j false apart) ∙ has) in
          let elsewhere : before ≢ position = λ same.
          let c : was.chunk ≡ chunk = same_Some was.chunk chunk (sym was.there ∙ (ap (slice_get live) same ∙ at)) in
          apart (one_bucket pool.geometry is.geometry j i (sym was.placed ∙ ap (λ (x : Chunk). x.place) c ∙ fills.placed)) in
          let (now, still_there) = slice_get-unremoved live position before was.chunk elsewhere was.there in
          (now, record { chunk = was.chunk; there = still_there; placed = was.placed })
    ])

-- ONE RESIZED

-- a chunk of the resized list had its place before
resized-was : (live : List Chunk) (position : ℕ) (chunk resized : Chunk) → slice_get live position ≡ Some chunk →
    resized.place ≡ chunk.place → (k : ℕ) (now : Chunk) → slice_get (slice_set live position resized) k ≡ Some now →
    IsAt live k now.place
resized-was live position chunk resized at place k now there =
    elim (slice_get-set live position k resized now there) [
      | inl was ↦ record { chunk = now; there = was; placed = refl }
      | inr new ↦ record {
        chunk = chunk;
        there = ap (slice_get live) new.0 ∙ at;
        placed = sym place ∙ ap (λ (c : Chunk). c.place) new.1;
      }
    ]

-- a chunk of the list has its place in the resized list
resized-is : (live : List Chunk) (position : ℕ) (chunk resized : Chunk) → slice_get live position ≡ Some chunk →
    resized.place ≡ chunk.place → (k place : ℕ) → IsAt live k place → IsAt (slice_set live position resized) k place
resized-is live position chunk resized at place k q was = elim (cases_eq k position) [
  | inl same ↦
      let c : was.chunk ≡ chunk = same_Some was.chunk chunk (sym was.there ∙ (ap (slice_get live) same ∙ at)) in
      record {
        chunk = resized;
        there = ap (slice_get (slice_set live position resized)) same ∙ slice_get-set_same live position resized chunk at;
        placed = place ∙ (sym (ap (λ (x : Chunk). x.place) c) ∙ was.placed);
      }
  | inr apart ↦ record {
    chunk = was.chunk;
    there = slice_get-set_other live position k resized apart ∙ was.there;
    placed = was.placed;
  }
]

-- the chunk at a position is resized in its bucket
pub stands-resized : (pool : Pool) (live : List Chunk) (position : ℕ) (chunk resized : Chunk) → IsPool pool →
    StandsFor pool live → slice_get live position ≡ Some chunk → resized.place ≡ chunk.place →
    resized.len ≤ pool.geometry.bucket.size → StandsFor pool (slice_set live position resized)
stands-resized pool live position chunk resized is stands at place short =
    let new : List Chunk = slice_set live position resized in
    let fills = filled-at pool live stands position chunk at in
    let filled : All (λ (c : Chunk). (j : ℕ) × Fills pool c j) new =
    All-from_positions (λ (c : Chunk). (j : ℕ) × Fills pool c j) new (λ k now there.
    elim (slice_get-set live position k resized now there) [
      | inl was ↦ filled-at pool live stands k now was
      | inr set ↦ subst (λ (c : Chunk). (j : ℕ) × Fills pool c j) set.1
          (fills.0, record { held = fills.1.held; placed = place ∙ fills.1.placed; short = short })
    ]) in
    let differ : PlacesDiffer new = AllPairs-from_positions (λ (one other : Chunk). one.place ≢ other.place) new
    (λ i j one other before at_i at_j same.
    let p = resized-was live position chunk resized at place i one at_i in
    let q = resized-was live position chunk resized at place j other at_j in
    places-apart live stands.differ i j p.chunk q.chunk (λ e. omega arith) p.there q.there (p.placed ∙ (same ∙ sym q.placed))) in
    stands_from pool is new filled differ (λ j has.
    let was = stands.held j has in
    (was.0, resized-is live position chunk resized at place was.0 (bucket_place pool.geometry j) was.1))
