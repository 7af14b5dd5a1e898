use Rattle.bb_memory_pool_machine.proofs.steps.pool_world.found_at.Goals as goal
use Rattle.std.proofs.Common.{arith}
use Rattle.std.proofs.lemmas.Grind.{elements}

pub returns-clause-value : goal.returns-clause-value
returns-clause-value g c = grind (arith, elements)
