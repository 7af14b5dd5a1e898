use Rattle.scripts.proofs.words.write_labelled.Given as goal
use Rattle.scripts.specs.Words.{labelled_then}
use Rattle.std.proofs.Common.{length, ◌++◌, ◌≡◌}

-- the text written so far and the figures left are all figures
abbrev pub invariant-loop-label : goal.invariant-loop-label
invariant-loop-label l = l.line.items ++ labelled_then l.left l.end ≡ l.fn.line.items ++ labelled_then l.figures l.end

abbrev pub decreases-loop-label : goal.decreases-loop-label
decreases-loop-label l = length l.left
