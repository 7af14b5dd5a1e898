use Rattle.bb_memory_index_set.proofs.index_set.flags.Flags.new.Given as goal
use Rattle.std.proofs.Common.{length, ℕ, ◌-◌, ◌<◌, ◌≡◌}
use Rattle.std.specs.Prelude.{slice_index}

abbrev pub invariant-loop-k : goal.invariant-loop-k
invariant-loop-k g l = record {
  len : length l.free ≡ g.row.N;
  named : (j : ℕ) → j < l.k → slice_index l.free j ≡ l.bound - 1 - j;
}
