use Rattle.bb_memory_c.proofs.shared_bump.BumpPartiesSharesJoinedBump.join_last.Goals as goal
use Rattle.std.proofs.Common.{arith}
use Rattle.std.proofs.lemmas.Grind.{elements}

pub invariant_of-self-in-Ok-new : goal.invariant_of-self-in-Ok-new
invariant_of-self-in-Ok-new c = grind (arith, elements)
