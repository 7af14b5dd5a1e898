use Rattle.bb_memory_shared_pools.proofs.shared_pool.flags.Flags.have_detached.Given as goal
use Rattle.bb_memory_shared_pools.specs.SharedPoolRule.{FoundOther}
use Rattle.std.proofs.Common.{ℕ, ◌<◌, ◌≡◌}

abbrev pub invariant-loop-bucket : goal.invariant-loop-bucket
invariant-loop-bucket l = record {
  table : l.seat.table_id ≡ l.initial.seat.table_id;
  seat : l.seat.me ≡ l.initial.seat.me;
  other : (bucket : ℕ) → bucket < l.bucket → FoundOther l.fn.self.scene l.initial.seat.me.0.parties bucket;
}
