use Rattle.bb_memory_index_set.proofs.LastFreed.{apart_in, has_bound, others_have}
use Rattle.bb_memory_index_set.proofs.NumberWords.{bit_tells}
use Rattle.bb_memory_index_set.proofs.index_set.words.WordsIndexSet.has.Goals as goal
use Rattle.std.proofs.Common.{arith}

pub has-requires : goal.has-requires
has-requires g c = grind (arith, has_bound)

pub returns-then-has : goal.returns-then-has
returns-then-has g c = grind (arith, has_bound, bit_tells, apart_in)

pub returns-else-has : goal.returns-else-has
returns-else-has g c = grind (arith, has_bound, others_have, bit_tells)
