use Rattle.bb_memory_c.proofs.shared_pool.PoolPartiesSharesJoinedPool.join_last.Goals as goal
use Rattle.std.proofs.Common.{arith}
use Rattle.std.proofs.lemmas.Grind.{elements}

pub new-requires : goal.new-requires
new-requires c = grind (arith, elements)

pub invariant_of-self-in-Ok : goal.invariant_of-self-in-Ok
invariant_of-self-in-Ok c = grind (arith, elements)

pub returns-in-Ok : goal.returns-in-Ok
returns-in-Ok c = grind (arith, elements)
