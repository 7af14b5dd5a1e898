use Rattle.bb_memory_owned.proofs.OneChunks.{answer-aligned, answer-inside}
use Rattle.bb_memory_owned.proofs.one_chunk_allocator.OneChunkAllocatorBaseAllocator.answers_fit.Goals as goal

pub returns-clause-inside : goal.returns-clause-inside
returns-clause-inside c = λ live layout chunk stands may. answer-inside c.args.self.now.region live layout chunk may

pub returns-clause-aligned : goal.returns-clause-aligned
returns-clause-aligned c = λ live layout chunk stands may. answer-aligned c.args.self.now.region live layout chunk may
