use Rattle.bb_memory_index_set.proofs.index_set.index_words.IndexWords.put.Goals as goal
use Rattle.std.proofs.Common.{arith}
use Rattle.std.proofs.lemmas.Grind.{elements}

pub returns : goal.returns
returns g c = grind (arith, elements)
