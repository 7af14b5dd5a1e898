use Rattle.bb_memory_index_set.proofs.index_set.words.WordsIndexSet.release.Goals as goal
use Rattle.std.proofs.Common.{arith}
use Rattle.std.proofs.lemmas.Grind.{elements}

pub invariant_of-self : goal.invariant_of-self
invariant_of-self g c = grind (arith, elements)

pub put_back-requires : goal.put_back-requires
put_back-requires g c = grind (arith, elements)

pub invariant_of-self-else-earlier : goal.invariant_of-self-else-earlier
invariant_of-self-else-earlier g c = grind (arith, elements)
