use Rattle.bb_memory_owned.proofs.pool_allocator.laws.pool_held_law.Goals as goal
use Rattle.bb_memory_owned.specs.Pool.{bucket_held_at, held_at_bucket, held_place}

pub returns : goal.returns
returns c = record {
  listed = held_place;
  bucket = bucket_held_at;
  held = held_at_bucket;
}
