-- Live lists of chunks in buckets.
use Rattle.bb_memory_traits.proofs.PoolGeometries.{bucket_place-after, first_place-above, stride-above}
use Rattle.bb_memory_traits.specs.Chunk.{AreApart, Chunk, IsInside, IsSound, Layout}
use Rattle.bb_memory_traits.specs.Object.{PlacesDiffer}
use Rattle.bb_memory_traits.specs.PoolObject.{IsAt, IsPoolGeometry, MayGive, PoolGeometry, bucket_place, chunk_in}
use Rattle.std.proofs.Common.{Bool, List, [], ap, arith, get_or, inl, inr, length, refl, suc, sym, zero, ℕ, ◌++◌, ◌+◌, ◌<◌, ◌∙◌, ◌∷◌, ◌≡◌, ◌≢◌, ◌≤◌}
use Rattle.std.proofs.lemmas.Bool.{cases_eq, cases_lt}
use Rattle.std.proofs.lemmas.Bool.Decides.{nat_tests}
use Rattle.std.proofs.lemmas.List.Elements.{All-from_recursion, All-push, recursion_from_All}
use Rattle.std.proofs.lemmas.List.Quantifiers.{all_pairs_push, all_pairs_remove}
use Rattle.std.proofs.lemmas.Option.{same_Some, slice_get-get_or}
use Rattle.std.specs.List.{AllByRecursion}
use Rattle.std.specs.Prelude.{All, AllPairs, if◌then◌else◌, remove, ◌==◌}

-- CHUNKS IN BUCKETS

-- the chunk has a bucket's place, and at most its size
pub record IsInBucket (geometry : PoolGeometry) (chunk : Chunk) : Type 0 where
  pub bucket : ℕ
  pub below : bucket < geometry.buckets
  pub placed : chunk.place ≡ bucket_place geometry bucket
  pub short : chunk.len ≤ geometry.bucket.size

-- each chunk is in a bucket, and no two overlap
pub record AreInBuckets (geometry : PoolGeometry) (live : List Chunk) : Type 0 where
  pub each : All (IsInBucket geometry) live
  pub apart : AllPairs AreApart live

-- a chunk in a bucket is inside the region
pub inside_from_bucket : (geometry : PoolGeometry) → IsPoolGeometry geometry → (chunk : Chunk) →
    IsInBucket geometry chunk → IsInside geometry.region chunk
inside_from_bucket geometry is chunk in_bucket = record {
  above = omega (arith, first_place-above geometry.region geometry.bucket, in_bucket.placed);
  below =
      let room = is.room in_bucket.bucket in_bucket.below in
      omega (arith, stride-above geometry.bucket, in_bucket.placed, in_bucket.short, room);
}

pub sound_from_buckets : (geometry : PoolGeometry) → IsPoolGeometry geometry → (live : List Chunk) →
    AreInBuckets geometry live → IsSound geometry.region live
sound_from_buckets geometry is live buckets = record {
  inside = λ k d within. inside_from_bucket geometry is (get_or live k d) (buckets.each k d within);
  apart = buckets.apart;
}

-- chunks in different buckets are apart
apart_from_buckets : (geometry : PoolGeometry) (one other : Chunk) (p : IsInBucket geometry one)
    (q : IsInBucket geometry other) → p.bucket ≢ q.bucket → AreApart one other
apart_from_buckets geometry one other p q differ shared =
    let wide = stride-above geometry.bucket in
    elim (cases_lt p.bucket q.bucket) [
      | inl below ↦
          let after = bucket_place-after geometry p.bucket q.bucket below in
          omega (arith, after, p.placed, q.placed, p.short, wide, shared.1.1, shared.2.0)
      | inr above ↦
          let more : q.bucket < p.bucket = omega arith in
          let after = bucket_place-after geometry q.bucket p.bucket more in
          omega (arith, after, p.placed, q.placed, q.short, wide, shared.1.0, shared.2.1)
    ]

-- chunks in buckets whose places differ are in different buckets
pub AreInBuckets-from_places : (geometry : PoolGeometry) (live : List Chunk) → All (IsInBucket geometry) live →
    PlacesDiffer live → AreInBuckets geometry live
AreInBuckets-from_places geometry live each differ = record {
  each = each;
  apart = λ i j d before within.
      let p = each i d (omega arith) in
      let q = each j d within in
      apart_from_buckets geometry (get_or live i d) (get_or live j d) p q
      (λ same. differ i j d before within (p.placed ∙ ap (bucket_place geometry) same ∙ sym q.placed));
}

pub AreInBuckets-empty : (geometry : PoolGeometry) → AreInBuckets geometry []
AreInBuckets-empty geometry = record {
  each = λ k d within. absurd (omega arith);
  apart = λ i j d before within. absurd (omega arith);
}

-- the chunk that is given is in a bucket, and apart from those in use
pub AreInBuckets-push : (geometry : PoolGeometry) (live : List Chunk) (layout : Layout) (i : ℕ) →
    MayGive geometry live layout i → AreInBuckets geometry live → AreInBuckets geometry (live ++ chunk_in geometry i layout ∷ [])
AreInBuckets-push geometry live layout i may buckets =
    let chunk : Chunk = chunk_in geometry i layout in
    let in_bucket : IsInBucket geometry chunk =
    record { bucket = i; below = may.bucket; placed = refl; short = may.within.size } in
    record {
      each = All-push (IsInBucket geometry) live chunk buckets.each in_bucket;
      apart = all_pairs_push AreApart live chunk buckets.apart (λ k d within.
          let there = buckets.each k d within in
          let other : Chunk = get_or live k d in
          let differ : there.bucket ≢ i = λ same. may.free (
            k,
            record {
              chunk = other;
              there = slice_get-get_or live k d within;
              placed = there.placed ∙ ap (bucket_place geometry) same;
            },
          ) in
          apart_from_buckets geometry other chunk there in_bucket differ);
    }

all-remove : {X : Type 0} (P : X → Type 0) (xs : List X) (n : ℕ) → AllByRecursion P xs → AllByRecursion P (remove xs n)
all-remove P [] zero each = tt
all-remove P [] (suc n) each = tt
all-remove P (x ∷ xs) zero (here, rest) = rest
all-remove P (x ∷ xs) (suc n) (here, rest) = (here, all-remove P xs n rest)

pub AreInBuckets-remove : (geometry : PoolGeometry) (live : List Chunk) (position : ℕ) →
    position < length live → AreInBuckets geometry live → AreInBuckets geometry (remove live position)
AreInBuckets-remove geometry live position within buckets = record {
  each =
      let P : Chunk → Type 0 = λ chunk. IsInBucket geometry chunk in
      All-from_recursion P (remove live position) (all-remove P live position (recursion_from_All P live buckets.each));
  apart = all_pairs_remove AreApart live position within buckets.apart;
}

-- HOW MANY CHUNKS HAVE A PLACE

abbrev one_if : Bool → ℕ
one_if b = if b then 1 else 0

abbrev pub count_at : ℕ → List Chunk → ℕ
count_at place [] = 0
count_at place (chunk ∷ chunks) = one_if (chunk.place == place) + count_at place chunks

one_if-same : (m n : ℕ) → m ≡ n → one_if (m == n) ≡ 1
one_if-same m n e = grind (arith, nat_tests)

one_if-apart : (m n : ℕ) → m ≢ n → one_if (m == n) ≡ 0
one_if-apart m n e = grind (arith, nat_tests)

count_at-append : (place : ℕ) (live : List Chunk) (chunk : Chunk) →
    count_at place (live ++ chunk ∷ []) ≡ count_at place live + one_if (chunk.place == place)
count_at-append place [] chunk = omega arith
count_at-append place (c ∷ live) chunk = omega (arith, count_at-append place live chunk)

-- one more chunk has the place of the chunk that is appended
pub count_at-push_same : (place : ℕ) (live : List Chunk) (chunk : Chunk) → chunk.place ≡ place →
    count_at place (live ++ chunk ∷ []) ≡ count_at place live + 1
count_at-push_same place live chunk placed = omega (arith, count_at-append place live chunk, one_if-same chunk.place place placed)

pub count_at-push_other : (place : ℕ) (live : List Chunk) (chunk : Chunk) → chunk.place ≢ place →
    count_at place (live ++ chunk ∷ []) ≡ count_at place live
count_at-push_other place live chunk apart = omega (arith, count_at-append place live chunk, one_if-apart chunk.place place apart)

count_at-without : (place q position : ℕ) (live : List Chunk) → IsAt live position q →
    count_at place (remove live position) + one_if (q == place) ≡ count_at place live
count_at-without place q position [] at = grind arith
count_at-without place q zero (c ∷ live) at =
    let placed = ap (λ (x : Chunk). x.place) (same_Some c at.chunk at.there) ∙ at.placed in
    omega (arith, ap (λ (n : ℕ). one_if (n == place)) placed)
count_at-without place q (suc position) (c ∷ live) at =
    let later : IsAt live position q = record { chunk = at.chunk; there = at.there; placed = at.placed } in
    omega (arith, count_at-without place q position live later)

-- one chunk less has the place of the chunk that is taken out
pub count_at-remove_same : (place position : ℕ) (live : List Chunk) → IsAt live position place →
    count_at place (remove live position) + 1 ≡ count_at place live
count_at-remove_same place position live at =
    omega (arith, count_at-without place place position live at, one_if-same place place refl)

pub count_at-remove_other : (place q position : ℕ) (live : List Chunk) → IsAt live position q → q ≢ place →
    count_at place (remove live position) ≡ count_at place live
count_at-remove_other place q position live at apart =
    omega (arith, count_at-without place q position live at, one_if-apart q place apart)

-- a chunk has the place if and only if their number isn't 0
pub at_from_count : (place : ℕ) (live : List Chunk) → 0 < count_at place live → (position : ℕ) × IsAt live position place
at_from_count place [] some = absurd (omega arith)
at_from_count place (c ∷ live) some = elim (cases_eq c.place place) [
  | inl same ↦ (zero, record { chunk = c; there = refl; placed = same })
  | inr apart ↦
      let later = at_from_count place live (omega (arith, one_if-apart c.place place apart, some)) in
      (suc later.0, record { chunk = later.1.chunk; there = later.1.there; placed = later.1.placed })
]

pub count_from_at : (place position : ℕ) (live : List Chunk) → IsAt live position place → 0 < count_at place live
count_from_at place position live at = omega (arith, count_at-remove_same place position live at)
