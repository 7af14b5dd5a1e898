-- The places of a pool's buckets.
use Rattle.bb_memory_traits.proofs.LeastPlaces.{least_place-is}
use Rattle.bb_memory_traits.specs.Chunk.{Layout, Region, first_place, region_end}
use Rattle.bb_memory_traits.specs.PoolObject.{FillsRegion, IsPoolGeometry, PoolGeometry, bucket_place, pool_geometry, stride}
use Rattle.std.proofs.Common.{ap, arith, mul-le-mul_right, sym, ℕ, ◌%◌, ◌*◌, ◌+◌, ◌-◌, ◌/◌, ◌<◌, ◌∙◌, ◌≡◌, ◌≢◌, ◌≤◌}
use Rattle.std.proofs.Math.Nat.{mul-add-mod_self_right, mul_assoc}
use Rattle.std.proofs.lemmas.Bool.{cases_lt}
use Rattle.std.proofs.lemmas.Nat.{div-add-mod', le-div, mod-mul-add}

-- a stride is at least the bucket's size
pub stride-above : (bucket : Layout) → bucket.size ≤ stride bucket
stride-above bucket = (least_place-is bucket.size bucket.align bucket.valid.positive).above

-- the first bucket isn't before the region's start
pub first_place-above : (region : Region) (bucket : Layout) → region.start ≤ first_place region bucket
first_place-above region bucket = (least_place-is region.start bucket.align bucket.valid.positive).above

-- of two buckets, the lower one ends before the higher one begins
pub bucket_place-after : (geometry : PoolGeometry) (i j : ℕ) → i < j →
    bucket_place geometry i + stride geometry.bucket ≤ bucket_place geometry j
bucket_place-after geometry i j below = omega (arith, mul-le-mul_right {m = i + 1} {n = j} (stride geometry.bucket) (omega arith))

-- two buckets have different places
pub bucket_place-apart : (geometry : PoolGeometry) → IsPoolGeometry geometry → (i j : ℕ) → i ≢ j →
    bucket_place geometry i ≢ bucket_place geometry j
bucket_place-apart geometry is i j apart same = grind (arith, stride-above, cases_lt, bucket_place-after)

-- the buckets that a region has room for are those below a quotient
pub room-quotient : (region : Region) (bucket : Layout) → 0 < bucket.size →
    FillsRegion (pool_geometry region bucket ((region_end region - first_place region bucket) / stride bucket))
room-quotient region bucket filled i = grind (arith, stride-above, mul-le-mul_right, div-add-mod', le-div)

-- each region has a geometry with exactly the buckets that it has room for
pub some_geometry : (region : Region) (bucket : Layout) → 0 < bucket.size →
    (buckets : ℕ) × FillsRegion (pool_geometry region bucket buckets)
some_geometry region bucket filled =
    ((region_end region - first_place region bucket) / stride bucket, room-quotient region bucket filled)

-- each bucket's place is a multiple of the bucket's alignment
pub bucket_place-aligned : (geometry : PoolGeometry) (i : ℕ) → bucket_place geometry i % geometry.bucket.align ≡ 0
bucket_place-aligned geometry i =
    let align : ℕ = geometry.bucket.align in
    let positive : 0 < align = geometry.bucket.valid.positive in
    let first = (least_place-is geometry.region.start align positive).multiple in
    let step = (least_place-is geometry.bucket.size align positive).multiple in
    let strides : i * stride geometry.bucket ≡ i * step.0 * align = ap (λ n. i * n) step.1 ∙ sym (mul_assoc i step.0 align) in
    let whole : bucket_place geometry i ≡ first.0 * align + (i * step.0 * align + 0) = omega (arith, first.1, strides) in
    ap (λ n. n % align) whole ∙ mul-add-mod_self_right first.0 align (i * step.0 * align + 0)
    ∙ mod-mul-add (i * step.0) align 0 positive
