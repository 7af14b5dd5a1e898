use Rattle.bb_memory_base.proofs.runs.apply_grow.Goals as goal
use Rattle.std.proofs.Common.{arith}
use Rattle.std.proofs.lemmas.Grind.{elements}

pub index_mut-requires : goal.index_mut-requires
index_mut-requires g c = grind (arith, elements)
