use Rattle.bb_memory_seats.specs.Seats.{number_of, view_log}
use Rattle.bb_memory_shared_pools.proofs.SharedPoolPasses.{IsPassing}
use Rattle.bb_memory_shared_pools.proofs.shared_pool.buckets.SharedBucketPool.pass.Given as goal
use Rattle.std.proofs.Common.{◌≡◌}

abbrev pub invariant-loop-bucket : goal.invariant-loop-bucket
invariant-loop-bucket g l = record {
  table : l.seat.table_id ≡ l.initial.seat.table_id;
  passing : IsPassing l.self.scene (number_of l.initial.seat.me.0) (view_log l.initial.seat.me.0) l.bucket l.seat.me;
}
