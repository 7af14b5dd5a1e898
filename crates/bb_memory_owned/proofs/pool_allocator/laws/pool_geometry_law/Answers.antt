use Rattle.bb_memory_owned.proofs.pool_allocator.laws.pool_geometry_law.Goals as goal
use Rattle.bb_memory_traits.proofs.Geometries.{at_most-geometry, cut-geometry, one_cut, some_cut}
use Rattle.bb_memory_traits.proofs.PoolGeometries.{bucket_place-after, bucket_place-aligned, stride-above}

pub returns : goal.returns
returns c = record {
  some_cut = some_cut;
  one_cut = one_cut;
  is_geometry = cut-geometry;
  at_most = at_most-geometry;
  aligned = bucket_place-aligned;
  apart = bucket_place-after;
  wide_enough = stride-above;
}
