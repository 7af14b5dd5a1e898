use Rattle.bb_memory_base.proofs.runs.aligned_at.Goals as goal
use Rattle.std.proofs.Common.{arith}
use Rattle.std.proofs.lemmas.Grind.{elements}

pub returns-in_err-chunk-clause-nowhere : goal.returns-in_err-chunk-clause-nowhere
returns-in_err-chunk-clause-nowhere c = grind (arith, elements)

pub returns-clause-there : goal.returns-clause-there
returns-clause-there c = grind (arith, elements)

pub returns-clause-nowhere : goal.returns-clause-nowhere
returns-clause-nowhere c = grind (arith, elements)
