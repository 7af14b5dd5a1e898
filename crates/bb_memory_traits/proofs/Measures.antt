-- The buckets of a geometry with its measures: the first place, the stride and the stride's
-- factors.
use Rattle.bb_memory_traits.proofs.Layouts.{multiple}
use Rattle.bb_memory_traits.proofs.PoolGeometries.{bucket_place-aligned, first_place-above, stride-above}
use Rattle.bb_memory_traits.specs.Chunk.{Chunk, IsChunk, IsInside}
use Rattle.bb_memory_traits.specs.Geometry.{IsMeasured, IsPlaceOfBucket}
use Rattle.bb_memory_traits.specs.PoolObject.{IsPoolGeometry, PoolGeometry, bucket_place}
use Rattle.bb_memory_traits.specs.declared.layout.Layout.{Layout}
use Rattle.std.proofs.Common.{arith, ℕ, ◌%◌, ◌*◌, ◌+◌, ◌-◌, ◌<◌, ◌≡◌, ◌≤◌}

-- the first bytes of a bucket
abbrev pub chunk_at : PoolGeometry → ℕ → ℕ → Chunk
chunk_at geometry i len = record { place = bucket_place geometry i; len = len }

-- the buckets are inside the region
pub bucket-inside : (geometry : PoolGeometry) (i len : ℕ) → IsPoolGeometry geometry → i < geometry.buckets →
    len ≤ geometry.bucket.size → IsInside geometry.region (chunk_at geometry i len)
bucket-inside geometry i len is below short =
    let room = is.room i below in
    record {
      above = omega (arith, first_place-above geometry.region geometry.bucket);
      below = omega (arith, room, stride-above geometry.bucket);
    }

-- a geometry with the numbers that are stored for it
module _ (geometry : PoolGeometry) (first step shift inverse : ℕ) (measured : IsMeasured geometry first step shift inverse) where
  -- the first bytes at the place of a bucket are a chunk, and lie in the region
  pub placed : (place len : ℕ) → IsPlaceOfBucket geometry place → len ≤ geometry.bucket.size →
      IsChunk (record { place = place; len = len }) × IsInside geometry.region (record { place = place; len = len })
  placed place len (i, below, at) short =
      let inside = bucket-inside geometry i len measured.is_geometry below short in
      let region = measured.is_region in (
        record { place = omega (arith, inside.above, region.start, at); end = omega (arith, inside.below, region.end, at) },
        record { above = omega (arith, inside.above, at); below = omega (arith, inside.below, at) },
      )

  -- a bucket's place, in the form in which it is computed
  pub measured-place : (i : ℕ) → first + i * step ≡ bucket_place geometry i
  measured-place i = cc (measured.begins, measured.strides)

-- a bucket's place is a multiple of each alignment that isn't greater than the bucket's
pub bucket_place-multiple : (geometry : PoolGeometry) (i : ℕ) (layout : Layout) →
    layout.align ≤ geometry.bucket.align → bucket_place geometry i % layout.align ≡ 0
bucket_place-multiple geometry i layout le =
    multiple (bucket_place geometry i) layout geometry.bucket le (bucket_place-aligned geometry i)
