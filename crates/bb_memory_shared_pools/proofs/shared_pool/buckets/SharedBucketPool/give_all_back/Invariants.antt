use Rattle.bb_memory_shared_pools.proofs.shared_pool.buckets.SharedBucketPool.give_all_back.Given as goal
use Rattle.bb_memory_shared_pools.specs.SharedPool.{with_entries}
use Rattle.bb_memory_shared_pools.specs.SharedPoolLeaving.{returns_of}
use Rattle.std.proofs.Common.{◌≡◌}

abbrev pub invariant-loop-number : goal.invariant-loop-number
invariant-loop-number g l = record {
  returned : l.party ≡ with_entries l.initial.party (returns_of l.initial.party l.number);
}
