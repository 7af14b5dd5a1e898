use Rattle.bb_memory_shared_pools.proofs.shared_pool.buckets.SharedBucketPool.return_detached.Goals as goal
use Rattle.std.proofs.Common.{arith}
use Rattle.std.proofs.lemmas.Grind.{common_steps}

pub invariant_of-party : goal.invariant_of-party
invariant_of-party g c = grind (arith, common_steps)

pub returns : goal.returns
returns g c = grind (arith, common_steps)
