use Rattle.bb_memory_owned.proofs.PoolCalls.{MayShrink-fits, resized-stands}
use Rattle.bb_memory_owned.proofs.Pools.{held_bucket_below}
use Rattle.bb_memory_owned.proofs.pool_allocator.bucket_pool.BucketPoolAllocator.shrink.Goals as goal

pub returns-clause-value : goal.returns-clause-value
returns-clause-value g c = rw (← c.self.view_is) c.shrink.ensures.answer

pub returns-clause-answer : goal.returns-clause-answer
returns-clause-answer g c = λ live position chunk stands at there. returns-clause-value g c

pub shrink-requires-clause-place : goal.shrink-requires-clause-place
shrink-requires-clause-place g c =
    held_bucket_below _ c.args.place c.self.invariant.0.flags (rw (← c.self.view_is) at c.requires.live)

pub shrink-requires-clause-reserved : goal.shrink-requires-clause-reserved
shrink-requires-clause-reserved g c = rw (← c.self.view_is) at c.requires.reserved

pub returns-clause-same_place : goal.returns-clause-same_place
returns-clause-same_place g c =
    (MayShrink-fits c.args.self.now.pool.geometry.bucket c.args.place c.args.old c.args.new c.shrink.result c.requires.reserved
    (returns-clause-value g c)).0

pub returns-clause-long_enough : goal.returns-clause-long_enough
returns-clause-long_enough g c =
    (MayShrink-fits c.args.self.now.pool.geometry.bucket c.args.place c.args.old c.args.new c.shrink.result c.requires.reserved
    (returns-clause-value g c)).1

pub returns-clause-within : goal.returns-clause-within
returns-clause-within g c =
    (MayShrink-fits c.args.self.now.pool.geometry.bucket c.args.place c.args.old c.args.new c.shrink.result c.requires.reserved
    (returns-clause-value g c)).2

pub returns-clause-resized : goal.returns-clause-resized
returns-clause-resized g c =
    resized-stands c.args.self.now.pool c.args.place c.args.new.size c.shrink.result (rw (← c.self.view_is) c.self.invariant.0)
    (returns-clause-same_place g c, returns-clause-long_enough g c, returns-clause-within g c)
