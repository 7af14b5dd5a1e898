use Rattle.bb_memory_file.proofs.FileSearches.{Searched}
use Rattle.bb_memory_file.proofs.calls.search.Given as goal
use Rattle.std.proofs.Common.{◌≤◌}

-- none of the buckets before this one was free
abbrev pub invariant-loop-bucket : goal.invariant-loop-bucket
invariant-loop-bucket g l = record {
  searched : Searched (g.W.Words.log l.fn.words) l.fn.from l.bucket (g.W.Words.log l.words);
  most : l.bucket ≤ l.fn.to;
}
