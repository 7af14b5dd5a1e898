-- Answers of the pool object.
use Rattle.bb_memory_lists.proofs.Positions.{All-from_positions}
use Rattle.bb_memory_traits.proofs.Measures.{bucket_place-multiple}
use Rattle.bb_memory_traits.proofs.PoolGeometries.{bucket_place-aligned}
use Rattle.bb_memory_traits.proofs.PoolLists.{at_from_count, count_at, count_from_at, inside_from_bucket}
use Rattle.bb_memory_traits.specs.Chunk.{Chunk, IsInside}
use Rattle.bb_memory_traits.specs.PoolObject.{IsHeld, IsPoolGeometry, IsWithin, MayAllocate, PoolGeometry, bucket_place, chunk_in}
use Rattle.bb_memory_traits.specs.declared.allocator.AllocationError.{AllocationError}
use Rattle.bb_memory_traits.specs.declared.allocator.AllocationError.TheVariants.{AlignmentFailure, OutOfMemory, SizeTooLarge}
use Rattle.bb_memory_traits.specs.declared.layout.Layout.{Layout}
use Rattle.std.proofs.Common.{Err, List, Ok, Result, ap, arith, inl, inr, refl, subst, suc, zero, ℕ, ◌%◌, ◌<◌, ◌∙◌, ◌≡◌, ◌≢◌, ◌⊎◌}
use Rattle.std.proofs.lemmas.Bool.{cases_lt}
use Rattle.std.specs.Prelude.{All}

-- REQUESTS

-- a bucket is held or not
held_or_not : (geometry : PoolGeometry) (live : List Chunk) (i : ℕ) → IsHeld geometry live i ⊎ (¬ IsHeld geometry live i)
held_or_not geometry live i =
    let place : ℕ = bucket_place geometry i in
    elim (cases_lt 0 (count_at place live)) [
      | inl some ↦ inl (at_from_count place live some)
      | inr none ↦ inr (λ held. omega (arith, none, count_from_at place held.0 live held.1))
    ]

-- one of the buckets below n isn't held
record SomeFree (geometry : PoolGeometry) (live : List Chunk) (n : ℕ) : Type 0 where
  number : ℕ
  below : number < n
  free : ¬ IsHeld geometry live number

-- of the buckets below n, one isn't held or all are
some_free : (geometry : PoolGeometry) (live : List Chunk) (n : ℕ) →
    SomeFree geometry live n ⊎ ((i : ℕ) → i < n → IsHeld geometry live i)
some_free geometry live zero = inr (λ i below. absurd (omega arith))
some_free geometry live (suc n) =
    elim (some_free geometry live n) [
      | inl some ↦ let below = some.below in
          inl (record { number = some.number; below = omega arith; free = some.free })
      | inr all ↦ elim (held_or_not geometry live n) [
        | inr free ↦ inl (record { number = n; below = omega arith; free = free })
        | inl held ↦ inr (λ i below. elim (cases_lt i n) [
          | inl before ↦ all i before
          | inr last ↦ let same : n ≡ i = omega arith in subst (IsHeld geometry live) same held
        ])
      ]
    ]

-- there is an answer to each request
pub some_answer : (geometry : PoolGeometry) (live : List Chunk) (layout : Layout) →
    (answer : Result Chunk AllocationError) × MayAllocate geometry live layout answer
some_answer geometry live layout =
    elim (cases_lt geometry.bucket.size layout.size) [
      | inl large ↦ (Err SizeTooLarge, large)
      | inr small ↦ elim (cases_lt geometry.bucket.align layout.align) [
        | inl coarse ↦ (Err AlignmentFailure, (small, coarse))
        | inr fine ↦
            let within : IsWithin geometry.bucket layout = record { size = small; align = fine } in
            elim (some_free geometry live geometry.buckets) [
              | inl some ↦ (
                Ok (chunk_in geometry some.number layout),
                (some.number, record { within = within; bucket = some.below; free = some.free }, refl),
              )
              | inr all ↦ (Err OutOfMemory, (within, all))
            ]
      ]
    ]

-- there is only one refusal
pub one_cause : (geometry : PoolGeometry) (live : List Chunk) (layout : Layout) (one other : AllocationError) →
    MayAllocate geometry live layout (Err one) → MayAllocate geometry live layout (Err other) → one ≡ other
one_cause geometry live layout SizeTooLarge SizeTooLarge first second = refl
one_cause geometry live layout one other first second = grind (arith, first, second)

-- if a chunk may be given, there is no refusal
pub given_or_refused : (geometry : PoolGeometry) (live : List Chunk) (layout : Layout) (chunk : Chunk)
    (error : AllocationError) → MayAllocate geometry live layout (Ok chunk) → ¬ MayAllocate geometry live layout (Err error)
given_or_refused geometry live layout chunk OutOfMemory given refused =
    given.1.free (refused.1 given.0 given.1.bucket)
given_or_refused geometry live layout chunk error given refused = let within = given.1.within in grind (arith, refused)

-- A CHUNK THAT IS GIVEN

pub answer-aligned : (geometry : PoolGeometry) (live : List Chunk) (layout : Layout) (chunk : Chunk) →
    MayAllocate geometry live layout (Ok chunk) → chunk.place % layout.align ≡ 0
answer-aligned geometry live layout chunk (i, may, given) =
    ap (λ (c : Chunk). c.place % layout.align) given ∙ bucket_place-multiple geometry i layout may.within.align

pub answer-bucket_aligned : (geometry : PoolGeometry) (live : List Chunk) (layout : Layout) (chunk : Chunk) →
    MayAllocate geometry live layout (Ok chunk) → chunk.place % geometry.bucket.align ≡ 0
answer-bucket_aligned geometry live layout chunk (i, may, given) =
    ap (λ (c : Chunk). c.place % geometry.bucket.align) given ∙ bucket_place-aligned geometry i

pub answer-len : (geometry : PoolGeometry) (live : List Chunk) (layout : Layout) (chunk : Chunk) →
    MayAllocate geometry live layout (Ok chunk) → chunk.len ≡ layout.size
answer-len geometry live layout chunk (i, may, given) = ap (λ (c : Chunk). c.len) given

-- no live chunk has its place
pub answer-new : (geometry : PoolGeometry) (live : List Chunk) (layout : Layout) (chunk : Chunk) →
    MayAllocate geometry live layout (Ok chunk) → All (λ other. other.place ≢ chunk.place) live
answer-new geometry live layout chunk (i, may, given) =
    let here : chunk.place ≡ bucket_place geometry i = ap (λ (c : Chunk). c.place) given in
    let New : Chunk → Type 0 = λ other. other.place ≢ chunk.place in
    All-from_positions New live
    (λ position other at same. may.free (position, record { chunk = other; there = at; placed = same ∙ here }))

pub answer-inside : (geometry : PoolGeometry) (live : List Chunk) (layout : Layout) (chunk : Chunk) →
    IsPoolGeometry geometry → MayAllocate geometry live layout (Ok chunk) → IsInside geometry.region chunk
answer-inside geometry live layout chunk is (i, may, given) =
    let small = may.within.size in
    inside_from_bucket geometry is chunk (record {
      bucket = i;
      below = may.bucket;
      placed = ap (λ (c : Chunk). c.place) given;
      short = omega (arith, ap (λ (c : Chunk). c.len) given);
    })
