use Rattle.bb_memory_index_set.proofs.index_set.index_words.IndexWords.new.Goals as goal
use Rattle.std.proofs.Common.{arith}
use Rattle.std.proofs.lemmas.Grind.{elements}

pub returns-clause-zero : goal.returns-clause-zero
returns-clause-zero g c = grind (arith, elements)

pub returns-clause-room : goal.returns-clause-room
returns-clause-room g c = grind (arith, elements)
