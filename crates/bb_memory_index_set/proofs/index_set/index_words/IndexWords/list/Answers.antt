use Rattle.bb_memory_index_set.proofs.index_set.index_words.IndexWords.list.Goals as goal
use Rattle.std.proofs.Common.{arith}
use Rattle.std.proofs.lemmas.Grind.{elements}

pub overflow_add-self-inside : goal.overflow_add-self-inside
overflow_add-self-inside g c = grind (arith, elements)

pub index_mut-requires : goal.index_mut-requires
index_mut-requires g c = grind (arith, elements)

pub returns-clause-words : goal.returns-clause-words
returns-clause-words g c = grind (arith, elements)

pub returns-clause-listed : goal.returns-clause-listed
returns-clause-listed g c = grind (arith, elements)
