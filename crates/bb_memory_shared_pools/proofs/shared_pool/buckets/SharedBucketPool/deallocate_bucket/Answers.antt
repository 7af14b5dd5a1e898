use Rattle.bb_memory_shared_pools.proofs.shared_pool.buckets.SharedBucketPool.deallocate_bucket.Goals as goal
use Rattle.std.proofs.Common.{arith}
use Rattle.std.proofs.lemmas.Grind.{common_steps}

pub invariant_of-party : goal.invariant_of-party
invariant_of-party g c = grind (arith, common_steps)

pub returns-clause-is_party : goal.returns-clause-is_party
returns-clause-is_party g c = grind (arith, common_steps)

pub returns-clause-given_back : goal.returns-clause-given_back
returns-clause-given_back g c = grind (arith, common_steps)

pub returns-clause-others_kept : goal.returns-clause-others_kept
returns-clause-others_kept g c = grind (arith, common_steps)

pub returns-clause-others : goal.returns-clause-others
returns-clause-others g c = grind (arith, common_steps)
