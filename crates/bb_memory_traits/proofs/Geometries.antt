-- Cuts of a region: each region has one, and a pool can be over a cut or a part of it.
use Rattle.bb_memory_traits.proofs.Cuts.{cut-fills, fills-once, room-cut, room_for}
use Rattle.bb_memory_traits.specs.Chunk.{Region}
use Rattle.bb_memory_traits.specs.PoolObject.{IsCut, IsPoolGeometry, PoolGeometry, at_most, pool_geometry}
use Rattle.bb_memory_traits.specs.declared.layout.Layout.{Layout}
use Rattle.std.proofs.Common.{ap, arith, subst, sym, ℕ, ◌<◌, ◌∙◌, ◌≡◌}

-- each region can be cut into buckets of at least one byte
pub some_cut : (region : Region) (bucket : Layout) → 0 < bucket.size →
    (geometry : PoolGeometry) × IsCut region bucket geometry
some_cut region bucket filled = (pool_geometry region bucket (room_for region bucket), room-cut region bucket filled)

-- a cut is given by its number of buckets
cut-parts : (region : Region) (bucket : Layout) (geometry : PoolGeometry) → IsCut region bucket geometry →
    geometry ≡ pool_geometry region bucket geometry.buckets
cut-parts region bucket geometry cut =
    ap (λ (r : Region). pool_geometry r geometry.bucket geometry.buckets) cut.region
    ∙ ap (λ (b : Layout). pool_geometry region b geometry.buckets) cut.bucket

-- there is only one cut
pub one_cut : (region : Region) (bucket : Layout) (one other : PoolGeometry) → IsCut region bucket one →
    IsCut region bucket other → one ≡ other
one_cut region bucket one other first second =
    let count : one.buckets ≡ other.buckets =
    fills-once region bucket one.buckets other.buckets
    (cut-fills region bucket one first) (cut-fills region bucket other second) in
    cut-parts region bucket one first
    ∙ ap (λ n. pool_geometry region bucket n) count
    ∙ sym (cut-parts region bucket other second)

-- a cut has room for each of its buckets
pub cut-geometry : (region : Region) (bucket : Layout) (geometry : PoolGeometry) → 0 < bucket.size →
    IsCut region bucket geometry → IsPoolGeometry geometry
cut-geometry region bucket geometry filled cut = record {
  filled = subst (λ (b : Layout). 0 < b.size) (sym cut.bucket) filled;
  room = λ i below. (cut.filled i).0 below;
}

-- a part of a geometry is a geometry
pub at_most-geometry : (geometry : PoolGeometry) (constant : ℕ) → IsPoolGeometry geometry →
    IsPoolGeometry (at_most constant geometry)
at_most-geometry geometry constant is = record {
  filled = is.filled;
  room = λ i below. is.room i (omega (arith, below));
}
