use Rattle.scripts.proofs.LineWords.{SoFar}
use Rattle.scripts.proofs.words.words.Given as goal
use Rattle.scripts.specs.Words.{list_of}
use Rattle.std.proofs.Common.{length}

-- the name and the numbers so far, and what is left of the line
abbrev pub invariant-loop-rest : goal.invariant-loop-rest
invariant-loop-rest l = SoFar l.line l.name (list_of l.numbers) l.rest

abbrev pub decreases-loop-rest : goal.decreases-loop-rest
decreases-loop-rest l = length l.rest
