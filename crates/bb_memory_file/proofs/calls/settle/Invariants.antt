use Rattle.bb_memory_file.proofs.FileSettlers.{Settling}
use Rattle.bb_memory_file.proofs.calls.settle.Given as goal
use Rattle.std.proofs.Common.{ℕ, ◌≡◌, ◌≤◌}

-- the settler has come to this bucket
abbrev pub invariant-loop-bucket : goal.invariant-loop-bucket
invariant-loop-bucket g l = record {
  settling : (process : ℕ) → Settling process (g.W.Words.log l.fn.words) l.fn.detached l.bucket l.freed (g.W.Words.log l.words);
  end : l.bucket-end ≡ (g.W.Words.log l.fn.words).scene.buckets;
  count : l.freed ≤ l.bucket;
}
