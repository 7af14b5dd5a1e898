use Rattle.bb_memory_file.proofs.joined.Joined.held.Given as goal
use Rattle.bb_memory_file.specs.FileNotes.{used_in}
use Rattle.std.proofs.Common.{take, ◌≡◌}

-- the buckets before this one are counted
abbrev pub invariant-loop-bucket : goal.invariant-loop-bucket
invariant-loop-bucket g l = l.used ≡ used_in (take l.bucket l.fn.self.notes)
