use Rattle.bb_memory_shared_pools.proofs.SharedPoolLaws.{held_below}
use Rattle.bb_memory_shared_pools.proofs.shared_pool.by_number.bucket.Goals as goal
use Rattle.bb_memory_shared_pools.specs.SharedPool.{SharedPool}
use Rattle.bb_memory_traits.proofs.PoolGeometries.{bucket_place-aligned}
use Rattle.std.proofs.Common.{subst, ◌<◌}

pub invariant_of-result : goal.invariant_of-result
invariant_of-result g c = rw c.pool.view_is (
  subst (λ (pool : SharedPool). c.args.number < pool.scene.geometry.buckets) c.requires.party
      (held_below c.args.party.now c.number.ensures.party c.args.number c.requires.held),
  c.requires.short,
)

pub returns-clause-aligned : goal.returns-clause-aligned
returns-clause-aligned g c = rw c.pool.view_is (bucket_place-aligned c.args.pool.now.scene.geometry c.args.number)
