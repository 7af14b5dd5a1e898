use Rattle.bb_memory_owned.proofs.PoolAnswers.{answer-aligned, answer-inside}
use Rattle.bb_memory_owned.proofs.pool_allocator.bucket_pool.BucketPoolBaseAllocator.answers_fit.Goals as goal
use Rattle.bb_memory_owned.specs.Pool.{IsPool}

pub returns-clause-inside : goal.returns-clause-inside
returns-clause-inside g c = λ live layout chunk stands may.
    let is : IsPool c.args.self.now.pool = rw (← c.self.view_is) c.self.invariant.0 in
    answer-inside c.args.self.now.pool.geometry live layout chunk is.geometry may

pub returns-clause-aligned : goal.returns-clause-aligned
returns-clause-aligned g c = λ live layout chunk stands may.
    answer-aligned c.args.self.now.pool.geometry live layout chunk may
