-- Regions that are cut into buckets: how many there are, and where each one is.
use Rattle.bb_memory_traits.proofs.PoolGeometries.{first_place-above, room-quotient, stride-above}
use Rattle.bb_memory_traits.specs.Chunk.{IsRegion, Region, first_place, region_end}
use Rattle.bb_memory_traits.specs.Geometry.{MayBeCut}
use Rattle.bb_memory_traits.specs.LeastPlace.{least_place}
use Rattle.bb_memory_traits.specs.PoolObject.{FillsRegion, IsCut, IsPoolGeometry, PoolGeometry, bucket_place, pool_geometry, stride}
use Rattle.bb_memory_traits.specs.declared.layout.Layout.{Layout}
use Rattle.std.proofs.Common.{IsSome, None, Option, Some, ap, arith, inl, inr, refl, subst, sym, ℕ, ◌%◌, ◌*◌, ◌+◌, ◌-◌, ◌/◌, ◌<◌, ◌^◌, ◌∙◌, ◌≡◌, ◌≤◌}
use Rattle.std.proofs.Math.Nat.{mod-eq_of_lt, mul-div_cancel, mul-le-mul_left, mul-mod_left}
use Rattle.std.proofs.lemmas.Bool.{cases_lt}
use Rattle.std.proofs.lemmas.Nat.{le-div, mod-mul-add}
use Rattle.std.specs.Option.{SomeIff}

-- STRIDES

-- a stride is a number of the machine
pub stride-small : (bucket : Layout) → stride bucket < 2 ^ 63
unfolding least_place
stride-small bucket = bucket.valid.fits

pub stride-positive : (bucket : Layout) → 0 < bucket.size → 0 < stride bucket
stride-positive bucket filled = omega (arith, stride-above bucket)

-- all buckets of a region are as long together as a number of the machine
pub buckets-fit : (geometry : PoolGeometry) → IsRegion geometry.region → IsPoolGeometry geometry →
    geometry.buckets * stride geometry.bucket < 2 ^ 64
buckets-fit geometry region is = elim (cases_lt 0 geometry.buckets) [
  | inl some ↦
      let last : geometry.buckets - 1 + 1 ≡ geometry.buckets = omega arith in
      let ends = is.room (geometry.buckets - 1) (omega arith) in
      omega (arith, ends, ap (λ n. n * stride geometry.bucket) last, region.end)
  | inr none ↦ let zero : geometry.buckets ≡ 0 = omega arith in omega (arith, ap (λ n. n * stride geometry.bucket) zero)
]

-- HOW MANY BUCKETS

-- how many buckets a region has room for
abbrev pub room_for : Region → Layout → ℕ
room_for region bucket = (region_end region - first_place region bucket) / stride bucket

-- a region has room for only one number of buckets
pub fills-once : (region : Region) (bucket : Layout) (one other : ℕ) → FillsRegion (pool_geometry region bucket one) →
    FillsRegion (pool_geometry region bucket other) → one ≡ other
fills-once region bucket one other fills_one fills_other =
    elim (cases_lt one other) [
      | inl less ↦ absurd (omega (arith, (fills_one one).1 ((fills_other one).0 less)))
      | inr least ↦ elim (cases_lt other one) [
        | inl less ↦ absurd (omega (arith, (fills_other other).1 ((fills_one other).0 less)))
        | inr most ↦ omega arith
      ]
    ]

-- a cut of a region by a layout fills that region by that layout
pub cut-fills : (region : Region) (bucket : Layout) (geometry : PoolGeometry) → IsCut region bucket geometry →
    FillsRegion (pool_geometry region bucket geometry.buckets)
cut-fills region bucket geometry cut =
    subst (λ (r : Region). FillsRegion (pool_geometry r bucket geometry.buckets)) cut.region
    (subst (λ (b : Layout). FillsRegion (pool_geometry geometry.region b geometry.buckets)) cut.bucket cut.filled)

-- the buckets of a cut are exactly those that the region has room for
pub cut-room : (region : Region) (bucket : Layout) (geometry : PoolGeometry) → 0 < bucket.size →
    IsCut region bucket geometry → geometry.buckets ≡ room_for region bucket
cut-room region bucket geometry filled cut =
    fills-once region bucket geometry.buckets (room_for region bucket) (cut-fills region bucket geometry cut)
    (room-quotient region bucket filled)

-- the cut with that many buckets
pub room-cut : (region : Region) (bucket : Layout) → 0 < bucket.size →
    IsCut region bucket (pool_geometry region bucket (room_for region bucket))
room-cut region bucket filled = record { region = refl; bucket = refl; filled = room-quotient region bucket filled }

pub may-be-cut : (region : Region) (bucket : Layout) → IsRegion region → first_place region bucket < 2 ^ 64 →
    0 < bucket.size → room_for region bucket < 2 ^ 32 - 1 → MayBeCut region bucket
may-be-cut region bucket is rounded filled few = record {
  is_region = is;
  rounded = rounded;
  filled = filled;
  few = λ geometry cut. let room = cut-room region bucket geometry filled cut in omega arith;
}

pub may-be-cut-few : (region : Region) (bucket : Layout) → MayBeCut region bucket → room_for region bucket < 2 ^ 32 - 1
may-be-cut-few region bucket may =
    may.few (pool_geometry region bucket (room_for region bucket)) (room-cut region bucket may.filled)

-- a cut has at most as many buckets as the bucket's size goes into the region's
pub cut-most : (region : Region) (bucket : Layout) (geometry : PoolGeometry) → 0 < bucket.size →
    IsCut region bucket geometry → geometry.buckets ≤ region.size / bucket.size
cut-most region bucket geometry filled cut =
    let count : ℕ = geometry.buckets in
    elim (cases_lt 0 count) [
      | inl some ↦
          let last : count - 1 + 1 ≡ count = omega arith in
          let room = (cut-fills region bucket geometry cut (count - 1)).0 (omega arith) in
          let wide : count * bucket.size ≤ count * stride bucket = mul-le-mul_left count (stride-above bucket) in
          let strides : (count - 1 + 1) * stride bucket ≡ count * stride bucket = ap (λ n. n * stride bucket) last in
          le-div count region.size bucket.size filled (omega (arith, room, wide, strides, first_place-above region bucket))
      | inr none ↦ omega arith
    ]

-- WHERE A BUCKET IS

-- the number of the bucket at a place
number-at : (geometry : PoolGeometry) (i place : ℕ) → 0 < stride geometry.bucket → place ≡ bucket_place geometry i →
    (place - first_place geometry.region geometry.bucket) / stride geometry.bucket ≡ i
number-at geometry i place some at =
    let past : place - first_place geometry.region geometry.bucket ≡ i * stride geometry.bucket = omega (arith, at) in
    ap (λ n. n / stride geometry.bucket) past ∙ mul-div_cancel i some

-- the distance of a place from the first bucket is a multiple of the stride if a bucket is there
whole-at : (geometry : PoolGeometry) (i place : ℕ) → place ≡ bucket_place geometry i →
    (place - first_place geometry.region geometry.bucket) % stride geometry.bucket ≡ 0
whole-at geometry i place at =
    let past : place - first_place geometry.region geometry.bucket ≡ i * stride geometry.bucket = omega (arith, at) in
    ap (λ n. n % stride geometry.bucket) past ∙ mul-mod_left i (stride geometry.bucket)

-- the number of whole strides up to a place is that of each bucket at the place
pub number-counted : (geometry : PoolGeometry) (i place distance number : ℕ) →
    distance ≡ place - first_place geometry.region geometry.bucket →
    (distance % stride geometry.bucket ≡ 0 → number ≡ distance / stride geometry.bucket) →
    0 < stride geometry.bucket → place ≡ bucket_place geometry i → i ≡ number
number-counted geometry i place distance number is divided some at =
    let whole = ap (λ n. n % stride geometry.bucket) is ∙ whole-at geometry i place at in
    sym (number-at geometry i place some at) ∙ ap (λ n. n / stride geometry.bucket) (sym is) ∙ sym (divided whole)

-- the distance from a place that isn't after another doesn't wrap
pub distance-after : (first place : ℕ) → first ≤ place → place < 2 ^ 64 → (place + (2 ^ 64 - first)) % 2 ^ 64 ≡ place - first
distance-after first place above small =
    let round : place + (2 ^ 64 - first) ≡ 1 * 2 ^ 64 + (place - first) = omega (arith, above, small) in
    ap (λ n. n % 2 ^ 64) round ∙ mod-mul-add 1 (2 ^ 64) (place - first) (omega (arith, small))

-- a bucket begins at a place whose distance, wrapped, is fewer strides than there are buckets
pub number-leads : (geometry : PoolGeometry) (first place number : ℕ) → IsRegion geometry.region → IsPoolGeometry geometry →
    first ≡ first_place geometry.region geometry.bucket → place < 2 ^ 64 → number < geometry.buckets →
    (place + (2 ^ 64 - first)) % 2 ^ 64 ≡ number * stride geometry.bucket → place ≡ bucket_place geometry number
number-leads geometry first place number region is begins small below strides =
    let room = is.room number below in
    elim (cases_lt place first) [
      | inl before ↦
          let wrapped : (place + (2 ^ 64 - first)) % 2 ^ 64 ≡ place + (2 ^ 64 - first) = mod-eq_of_lt (omega (arith, before)) in
          absurd (omega (arith, wrapped, strides, room, region.end, begins, before))
      | inr after ↦ omega (arith, distance-after first place after small, strides, begins, after)
    ]

-- TESTS THAT ANSWER A VALUE

pub some-if : {T : Type 0} (o : Option T) (P : Type 0) (v : T) → SomeIff o P v → P → IsSome o
some-if None P v unless is = absurd (unless is)
some-if (Some x) P v told is = refl

pub some-value : {T : Type 0} (o : Option T) (P : Type 0) (v x : T) → SomeIff o P v → o ≡ Some x → x ≡ v
some-value None P v x unless same = cc
some-value (Some y) P v x told same = let e : y ≡ v = told.1 in cc
