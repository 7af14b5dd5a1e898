use Rattle.bb_memory_owned.proofs.PoolCalls.{Takes-aligned, Takes-answer, Takes-appended, Takes-given, Takes-inside, TakesBucket-is}
use Rattle.bb_memory_owned.proofs.pool_allocator.bucket_pool.BucketPoolBaseAllocator.allocate.Goals as goal

pub returns-clause-answer : goal.returns-clause-answer
returns-clause-answer g c =
    rw (← c.self.view_is)
    (Takes-answer _ c.args.layout c.take-answer.result _ c.self.invariant.0 c.take-answer.ensures.taken)

pub returns-clause-appended : goal.returns-clause-appended
returns-clause-appended g c =
    rw (← c.self.view_is)
    (Takes-appended _ c.args.layout c.take-answer.result _ c.self.invariant.0 c.take-answer.ensures.taken)

pub returns-clause-given : goal.returns-clause-given
returns-clause-given g c = Takes-given _ c.args.layout c.take-answer.result _ c.take-answer.ensures.taken

pub returns-clause-inside : goal.returns-clause-inside
returns-clause-inside g c =
    rw (← c.self.view_is)
    (Takes-inside _ c.args.layout c.take-answer.result _ c.self.invariant.0 c.take-answer.ensures.taken)

pub returns-clause-aligned : goal.returns-clause-aligned
returns-clause-aligned g c = Takes-aligned _ c.args.layout c.take-answer.result _ c.take-answer.ensures.taken

pub returns-clause-value : goal.returns-clause-value
returns-clause-value g c =
    rw (← c.self.view_is)
    (TakesBucket-is _ c.args.layout c.take-answer.result _ _ c.self.invariant.0 c.self.invariant.1 c.self.invariant.2
    c.take-answer.ensures.taken c.take-answer.ensures.reads c.take-answer.ensures.greatest)
