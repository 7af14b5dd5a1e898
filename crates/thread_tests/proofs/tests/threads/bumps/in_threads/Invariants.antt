use Rattle.std.proofs.Common.{All, ◌≡◌}
use Rattle.std.specs.Arc.{arc_value}
use Rattle.thread_tests.proofs.tests.threads.bumps.in_threads.Given as goal

-- the parties that are left, and the promises of the threads that run, are all of one allocator
abbrev pub invariant-loop : goal.invariant-loop
invariant-loop g l = record {
  left : All (λ party. party.allocator ≡ arc_value l.shared) l.parties.items;
  run : All (λ thread. arc_value thread.promise.0.value ≡ arc_value l.shared) l.threads.items;
}

-- the same for the parties that came back, and for the threads that are left
abbrev pub invariant-loop-2 : goal.invariant-loop-2
invariant-loop-2 g l = record {
  back : All (λ party. party.allocator ≡ arc_value l.shared) l.parties.items;
  left : All (λ thread. arc_value thread.promise.0.value ≡ arc_value l.shared) l.threads.items;
}
