-- The places of the buckets of a region, and which regions can be cut into buckets.
use Rattle.bb_memory_traits.specs.Chunk.{IsRegion, Region, first_place}
use Rattle.bb_memory_traits.specs.PoolObject.{IsCut, IsPoolGeometry, IsWithin, PoolGeometry, at_most, bucket_place, stride}
use Rattle.bb_memory_traits.specs.declared.allocator.AllocationError.{AllocationError}
use Rattle.bb_memory_traits.specs.declared.allocator.AllocationError.TheVariants.{AlignmentFailure, SizeTooLarge}
use Rattle.bb_memory_traits.specs.declared.layout.Layout.{Layout}
use Rattle.std.specs.Prelude.{Err, IfNone, IfSome, Ok, Option, Result, ℕ, ◌%◌, ◌*◌, ◌+◌, ◌-◌, ◌<◌, ◌^◌, ◌≡◌, ◌≤◌, ◌⊎◌}

-- CUTS OF A REGION

-- the region may be cut into buckets of this layout: the start rounded up to the alignment fits
-- into 64 bits, a bucket has at least one byte, and there are fewer than u32::MAX buckets
pub record MayBeCut (region : Region) (bucket : Layout) : Type 0 where
  pub is_region : IsRegion region
  pub rounded : first_place region bucket < 2 ^ 64
  pub filled : 0 < bucket.size
  pub few : (geometry : PoolGeometry) → IsCut region bucket geometry → geometry.buckets < 2 ^ 32 - 1

-- the buckets are the first of those that the region has room for, at most `most`
pub record IsCutAtMost (most : ℕ) (region : Region) (bucket : Layout) (geometry : PoolGeometry) : Type 0 where
  pub whole : PoolGeometry
  pub cut : IsCut region bucket whole
  pub first : geometry ≡ at_most most whole

-- The check of a request before a bucket is tried: it passes if size and alignment are at most the
-- bucket's. Otherwise the first of the two that is greater decides the error.
abbrev pub Admits : Layout → Layout → Result (Unit {0}) AllocationError → Type 0
Admits bucket layout (Ok done) = IsWithin bucket layout
Admits bucket layout (Err SizeTooLarge) = bucket.size < layout.size
Admits bucket layout (Err AlignmentFailure) = (layout.size ≤ bucket.size) × (bucket.align < layout.align)
Admits bucket layout (Err error) = ⊥

-- WHERE BUCKETS ARE

-- The stride is an odd number times a power of two, and the inverse times the odd number is 1
-- modulo 2 ^ 64. So multiplying by the inverse divides a multiple of the odd number by that number.
pub record IsFactored (step shift inverse : ℕ) : Type 0 where
  pub odd : ℕ
  pub factors : step ≡ odd * 2 ^ shift
  pub short : shift < 64
  pub inverted : odd * inverse % 2 ^ 64 ≡ 1

-- the measures of a geometry: the place of its first bucket, its stride, and the factors of the
-- stride; its buckets are in a valid region
pub record IsMeasured (geometry : PoolGeometry) (first step shift inverse : ℕ) : Type 0 where
  pub is_region : IsRegion geometry.region
  pub is_geometry : IsPoolGeometry geometry
  pub begins : first ≡ first_place geometry.region geometry.bucket
  pub strides : step ≡ stride geometry.bucket
  pub factored : IsFactored step shift inverse

-- some bucket begins at the place
abbrev pub IsPlaceOfBucket : PoolGeometry → ℕ → Type 0
IsPlaceOfBucket geometry place = (i : ℕ) × (i < geometry.buckets) × (place ≡ bucket_place geometry i)

-- `told` is the number of the bucket that begins at the place, or None if no bucket begins there
pub record TellsNumber (geometry : PoolGeometry) (place : ℕ) (told : Option ℕ) : Type 0 where
  pub below : IfSome told (λ number. number < geometry.buckets)
  pub there : IfSome told (λ number. place ≡ bucket_place geometry number)
  pub one : IfSome told (λ number. (other : ℕ) → place ≡ bucket_place geometry other → other ≡ number)
  pub none : IfNone told (¬ IsPlaceOfBucket geometry place)

-- `told` is the place at which the bucket of this number begins, or None if there is no such bucket
pub record TellsPlace (geometry : PoolGeometry) (number : ℕ) (told : Option ℕ) : Type 0 where
  pub below : IfSome told (λ place. number < geometry.buckets)
  pub there : IfSome told (λ place. place ≡ bucket_place geometry number)
  pub none : IfNone told (geometry.buckets ≤ number)

-- of the two places, one is at least a stride after the other
abbrev pub AreAStrideApart : Layout → ℕ → ℕ → Type 0
AreAStrideApart bucket one other = (one + stride bucket ≤ other) ⊎ (other + stride bucket ≤ one)
