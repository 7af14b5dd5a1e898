use Rattle.scripts.proofs.Tables.{no_words, unreadable_empty, unreadable_first}
use Rattle.scripts.proofs.answering.outcome_of.Goals as goal
use Rattle.scripts.specs.Words.{lines_of}

pub returns-in_default : goal.returns-in_default
returns-in_default g c = rw (rw c.in_default.is at c.first_line.ensures.none) (unreadable_empty g.T.Kinds.table)

pub returns-in-Some-words : goal.returns-in-Some-words
returns-in-Some-words g c = rw (c.in-Some.ensures.cut, c.in-Some-words.ensures.written.text) c.run.ensures

pub returns-in-None : goal.returns-in-None
returns-in-None g c =
    let table = g.T.Kinds.table in
    let rest = lines_of c.in-Some.rest.now in
    let none = no_words table c.in-Some.first.now rest (rw c.in-None.is at c.words.ensures.none) in
    rw c.in-Some.ensures.cut (unreadable_first table c.in-Some.first.now rest none)
