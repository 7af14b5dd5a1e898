use Rattle.bb_memory_file.proofs.FileFlushes.{Flushed}
use Rattle.bb_memory_file.proofs.joined.Joined.flush.Given as goal
use Rattle.std.proofs.Common.{List, length, ℕ}

-- the buckets that were cached last are given back
abbrev pub invariant-loop : goal.invariant-loop
invariant-loop g l = (gone : List ℕ) × Flushed g.W.Words.log l.initial.self gone l.self

abbrev pub decreases-loop : goal.decreases-loop
decreases-loop g l = length l.self.cached
