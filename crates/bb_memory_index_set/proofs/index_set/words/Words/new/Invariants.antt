use Rattle.bb_memory_index_set.proofs.index_set.words.Words.new.Given as goal
use Rattle.std.proofs.Common.{length, replicate, ℕ, ◌+◌, ◌-◌, ◌<◌, ◌≡◌}
use Rattle.std.specs.Prelude.{slice_index}

abbrev pub invariant-loop-k : goal.invariant-loop-k
invariant-loop-k g l = record {
  some : 0 < l.k;
  words : l.words.words ≡ replicate l.count 0;
  room : length l.words.listed ≡ l.count - 1;
  named : (j : ℕ) → j + 1 < l.k → slice_index l.words.listed j ≡ l.count - 1 - j;
}
