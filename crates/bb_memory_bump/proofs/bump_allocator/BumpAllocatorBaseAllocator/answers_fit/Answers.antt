use Rattle.bb_memory_bump.proofs.bump_allocator.BumpAllocatorBaseAllocator.answers_fit.Goals as goal
use Rattle.bb_memory_traits.proofs.BumpObjects.{answer-aligned, answer-inside}

pub returns-clause-inside : goal.returns-clause-inside
returns-clause-inside c = λ live layout chunk stands may.
    answer-inside c.args.self.now.region live layout chunk stands.in_order may

pub returns-clause-aligned : goal.returns-clause-aligned
returns-clause-aligned c = λ live layout chunk stands may. answer-aligned c.args.self.now.region live layout chunk may
