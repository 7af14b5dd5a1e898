use Rattle.std.proofs.Common.{◌≡◌}
use Rattle.thread_tests.proofs.tests.threads.bumps.watch.Given as goal

abbrev pub invariant-loop : goal.invariant-loop
invariant-loop l = l.party.allocator ≡ l.shared
