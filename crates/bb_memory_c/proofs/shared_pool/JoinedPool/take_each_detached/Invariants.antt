use Rattle.bb_memory_c.proofs.shared_pool.JoinedPool.take_each_detached.Given as goal
use Rattle.bb_memory_c.specs.SharedPools.{HasOthers, TakesDetached}
use Rattle.bb_memory_c_calls.specs.Calls.{AtEach}
use Rattle.std.proofs.Common.{drop, take, ◌≡◌}

abbrev pub invariant-loop-slot : goal.invariant-loop-slot
invariant-loop-slot l = record {
  counted : l.taken ≡ l.slot-index;
  several : HasOthers l.self;
  taken : AtEach TakesDetached l.initial.self (take l.slot-index l.numbers) l.self;
  others : drop l.slot-index l.numbers ≡ drop l.slot-index l.initial.numbers;
}
