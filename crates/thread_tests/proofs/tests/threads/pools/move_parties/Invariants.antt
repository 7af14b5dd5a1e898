use Rattle.std.proofs.Common.{All, ◌≡◌}
use Rattle.thread_tests.proofs.tests.threads.pools.move_parties.Given as goal

-- the parties that are left, and those that were moved, are of this pool
abbrev pub invariant-loop : goal.invariant-loop
invariant-loop g l = record {
  from : All (λ party. party.allocator ≡ l.pool) l.from.items;
  to : All (λ party. party.allocator ≡ l.pool) l.to.items;
}
