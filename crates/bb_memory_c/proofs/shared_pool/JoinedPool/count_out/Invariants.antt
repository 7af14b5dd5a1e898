use Rattle.bb_memory_c.proofs.Counting.{CountsBelow}
use Rattle.bb_memory_c.proofs.shared_pool.JoinedPool.count_out.Given as goal
use Rattle.std.proofs.Common.{◌≡◌}

abbrev pub invariant-loop-number : goal.invariant-loop-number
invariant-loop-number l = record {
  unchanged : l.self ≡ l.initial.self;
  counted : CountsBelow l.initial.self l.number l.count;
}
