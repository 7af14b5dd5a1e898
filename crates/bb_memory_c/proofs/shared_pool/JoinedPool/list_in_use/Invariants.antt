use Rattle.bb_memory_c.proofs.InUse.{AreListedBelow}
use Rattle.bb_memory_c.proofs.shared_pool.JoinedPool.list_in_use.Given as goal
use Rattle.std.proofs.Common.{length, ◌≡◌, ◌≤◌}

abbrev pub invariant-loop-number : goal.invariant-loop-number
invariant-loop-number l = record {
  unchanged : l.self ≡ l.initial.self;
  long : l.buckets ≤ length l.list.items;
  listed : AreListedBelow l.initial.self l.number l.list.items;
}
