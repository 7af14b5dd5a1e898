use Rattle.scripts.proofs.words.split_before.Given as goal
use Rattle.std.proofs.Common.{All, take, ◌≢◌}

-- no byte so far is this one
abbrev pub invariant-loop-index : goal.invariant-loop-index
invariant-loop-index l = All (λ b. b ≢ l.byte) (take l.index l.text)
