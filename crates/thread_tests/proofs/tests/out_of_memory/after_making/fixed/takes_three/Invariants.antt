use Rattle.std.proofs.Common.{◌≡◌}
use Rattle.thread_tests.proofs.tests.out_of_memory.after_making.fixed.takes_three.Given as goal

abbrev pub invariant-loop-wanted : goal.invariant-loop-wanted
invariant-loop-wanted g l = l.party.allocator ≡ l.pool
