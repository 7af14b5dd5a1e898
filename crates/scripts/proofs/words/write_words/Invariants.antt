use Rattle.scripts.proofs.words.write_words.Given as goal
use Rattle.scripts.specs.Words.{list_of, numbers_text}
use Rattle.std.proofs.Common.{length, ◌++◌, ◌≡◌}

-- the text written so far and the numbers left are the name and all numbers
abbrev pub invariant-loop-number : goal.invariant-loop-number
invariant-loop-number l =
    l.line.items ++ numbers_text (list_of l.left)
    ≡ l.fn.line.items ++ (l.name ++ numbers_text (list_of l.fn.numbers))

abbrev pub decreases-loop-number : goal.decreases-loop-number
decreases-loop-number l = length (list_of l.left)
