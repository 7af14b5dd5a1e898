use Rattle.file_traces.proofs.traces.end_of.Given as goal
use Rattle.std.proofs.Common.{length, ◌+◌, ◌≤◌}

-- each line has at least one byte, and at most one change
abbrev pub invariant-loop-text : goal.invariant-loop-text
invariant-loop-text l =
    record {
      short : l.number + length l.left ≤ length l.input + 1;
      few : l.changes ≤ l.number;
    }

abbrev pub decreases-loop-text : goal.decreases-loop-text
decreases-loop-text l = length l.left
