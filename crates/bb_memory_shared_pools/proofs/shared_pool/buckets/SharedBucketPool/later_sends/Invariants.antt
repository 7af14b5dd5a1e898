use Rattle.bb_memory_pool_machine.specs.PoolLogs.{PoolLog}
use Rattle.bb_memory_seats.specs.Seats.{number_of, view_log}
use Rattle.bb_memory_shared_pools.proofs.shared_pool.buckets.SharedBucketPool.later_sends.Given as goal
use Rattle.bb_memory_shared_pools.specs.SharedPoolNextFit.{probes_before}
use Rattle.bb_memory_shared_pools.specs.SharedPoolRule.{IsInSearch, IsSeatOfIdle}
use Rattle.std.proofs.Common.{ℕ, ◌≡◌}

abbrev pub invariant-loop-probe : goal.invariant-loop-probe
invariant-loop-probe g l = record {
  table : l.seat.table_id ≡ l.initial.seat.table_id;
  own : number_of l.seat.me.0 ≡ l.party;
  idle : IsSeatOfIdle l.self.scene (number_of l.seat.me.0) (view_log l.seat.me.0) l.seat.me;
  so_far : (number : ℕ) (log : PoolLog) → IsInSearch l.self.scene number log l.first (probes_before l.self.scene.geometry.buckets l.first)
      l.initial.seat.me →
      IsInSearch l.self.scene number log l.first l.probe l.seat.me;
}
