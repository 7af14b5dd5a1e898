use Rattle.bb_memory_owned.proofs.Pools.{stands_for_some}
use Rattle.bb_memory_owned.proofs.pool_allocator.bucket_pool.BucketPoolBaseAllocator.stands_for_some_list.Goals as goal

pub returns : goal.returns
returns g c = stands_for_some c.args.self.now.pool (rw (← c.self.view_is) c.self.invariant.0)
