use Rattle.scripts.proofs.Tables.{unreadable_first}
use Rattle.scripts.proofs.answering.UnitKinds.run.Goals as goal
use Rattle.scripts.specs.Words.{lines_of, words, words_text}
use Rattle.std.proofs.Common.{[]}

pub returns : goal.returns
returns c = unreadable_first [] (words_text (words c.args.arg2.now c.args.arg3)) (lines_of c.args.arg4.now) (λ none. none)
