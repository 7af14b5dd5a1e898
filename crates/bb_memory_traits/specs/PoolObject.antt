-- The geometry of a pool, and the pool object: chunks in buckets, each resized in its bucket and
-- given back by itself.
use Rattle.bb_memory_traits.specs.Chunk.{AlignmentFailure, AllocationError, Chunk, Layout, OutOfMemory, Region, SizeIsZero, SizeTooLarge, first_place, region_end}
use Rattle.bb_memory_traits.specs.LeastPlace.{least_place}
use Rattle.bb_memory_traits.specs.Object.{AllocationGrowError, AllocationShrinkError, MayGrowAt, MayShrinkAt, ResizableObject, resizable_object_of}
use Rattle.std.specs.Prelude.{Err, List, Ok, Result, Some, min, slice_get, ℕ, ◌*◌, ◌+◌, ◌<◌, ◌↔◌, ◌≡◌, ◌≤◌}

-- The buckets of a region, numbered from 0.

-- the region that is cut, the layout of each bucket, and how many buckets there are
pub record PoolGeometry : Type 0 where
  pub region : Region
  pub bucket : Layout
  pub buckets : ℕ

-- the geometry of this region, bucket layout and number of buckets
abbrev pub pool_geometry : Region → Layout → ℕ → PoolGeometry
pool_geometry region bucket buckets = record { region = region; bucket = bucket; buckets = buckets }

-- the distance from the beginning of each bucket to that of the next one
abbrev pub stride : Layout → ℕ
stride bucket = least_place bucket.size bucket.align

-- the place of bucket i: the first place for bucket 0, and one more stride for each further bucket
abbrev pub bucket_place : PoolGeometry → ℕ → ℕ
bucket_place geometry i = first_place geometry.region geometry.bucket + i * stride geometry.bucket

-- bucket i with its whole stride ends inside the region
abbrev pub HasBucket : Region → Layout → ℕ → Type 0
HasBucket region bucket i = first_place region bucket + (i + 1) * stride bucket ≤ region_end region

-- the buckets are exactly those that the region has room for
abbrev pub FillsRegion : PoolGeometry → Type 0
FillsRegion geometry = (i : ℕ) → (i < geometry.buckets) ↔ HasBucket geometry.region geometry.bucket i

-- the region is cut into all the buckets of this layout that it has room for
pub record IsCut (whole : Region) (layout : Layout) (geometry : PoolGeometry) : Type 0 where
  pub region : geometry.region ≡ whole
  pub bucket : geometry.bucket ≡ layout
  pub filled : FillsRegion geometry

-- a geometry with the smaller of its number of buckets and a fixed pool's constant
abbrev pub at_most : ℕ → PoolGeometry → PoolGeometry
at_most constant geometry = pool_geometry geometry.region geometry.bucket (min geometry.buckets constant)

-- a bucket has at least one byte, and the region has room for each of the buckets
pub record IsPoolGeometry (geometry : PoolGeometry) : Type 0 where
  pub filled : 0 < geometry.bucket.size
  pub room : (i : ℕ) → i < geometry.buckets → HasBucket geometry.region geometry.bucket i

-- the chunk at this position of the list has this place
pub record IsAt (live : List Chunk) (position place : ℕ) : Type 0 where
  pub chunk : Chunk
  pub there : slice_get live position ≡ Some chunk
  pub placed : chunk.place ≡ place

-- bucket i is held: some chunk of the list begins at its place
abbrev pub IsHeld : PoolGeometry → List Chunk → ℕ → Type 0
IsHeld geometry live i = (position : ℕ) × IsAt live position (bucket_place geometry i)

-- the layout fits into a bucket: its size and its alignment are at most the bucket's
pub record IsWithin (bucket layout : Layout) : Type 0 where
  pub size : layout.size ≤ bucket.size
  pub align : layout.align ≤ bucket.align

-- the chunk that a request gets in bucket i
abbrev pub chunk_in : PoolGeometry → ℕ → Layout → Chunk
chunk_in geometry i layout = record { place = bucket_place geometry i; len = layout.size }

-- a request for the layout may get bucket i: its size and alignment are small enough, the bucket
-- exists, and it isn't held
pub record MayGive (geometry : PoolGeometry) (live : List Chunk) (layout : Layout) (i : ℕ) : Type 0 where
  pub within : IsWithin geometry.bucket layout
  pub bucket : i < geometry.buckets
  pub free : ¬ IsHeld geometry live i

-- The answers that the pool object may give to a request on a live list, and when.
abbrev pub MayAllocate : PoolGeometry → List Chunk → Layout → Result Chunk AllocationError → Type 0
-- any bucket that isn't held
MayAllocate geometry live layout (Ok chunk) = (i : ℕ) × MayGive geometry live layout i × (chunk ≡ chunk_in geometry i layout)
MayAllocate geometry live layout (Err SizeTooLarge) = geometry.bucket.size < layout.size
MayAllocate geometry live layout (Err AlignmentFailure) =
    (layout.size ≤ geometry.bucket.size) × (geometry.bucket.align < layout.align)
MayAllocate geometry live layout (Err OutOfMemory) =
    IsWithin geometry.bucket layout × ((i : ℕ) → i < geometry.buckets → IsHeld geometry live i)
-- no call fails with this error
MayAllocate geometry live layout (Err SizeIsZero) = ⊥

-- the answers to a grow of the chunk at `place`: the grown chunk has exactly the new size, and the
-- new alignment must not be greater than the bucket's
abbrev pub MayGrow : Layout → ℕ → Layout → Layout → Result Chunk AllocationGrowError → Type 0
MayGrow bucket place old new = MayGrowAt bucket.size bucket.align new.size place old new

-- the answers to a shrink: the shrunk chunk has exactly the new size, and the new alignment must
-- not be greater than the bucket's
abbrev pub MayShrink : Layout → ℕ → Layout → Layout → Result Chunk AllocationShrinkError → Type 0
MayShrink bucket = MayShrinkAt bucket.align

-- The pool object of a geometry. The whole bucket is reserved for its chunk. The answers to resizes
-- don't depend on the live list, and a release removes one chunk.
abbrev pub pool_object : PoolGeometry → ResizableObject
pool_object geometry =
    resizable_object_of (MayAllocate geometry) (λ place. geometry.bucket.size)
    (λ live. MayGrow geometry.bucket) (λ live. MayShrink geometry.bucket)
