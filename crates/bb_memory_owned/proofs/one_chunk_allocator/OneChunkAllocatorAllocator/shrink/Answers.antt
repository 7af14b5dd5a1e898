use Rattle.bb_memory_owned.proofs.one_chunk_allocator.OneChunkAllocatorAllocator.shrink.Goals as goal
use Rattle.bb_memory_traits.proofs.Layouts.{multiple}
use Rattle.bb_memory_traits.specs.Chunk.{Chunk}
use Rattle.std.proofs.Common.{ap, arith, ◌%◌, ◌∙◌}

pub returns-clause-aligned : goal.returns-clause-aligned
returns-clause-aligned c =
    ap (λ (chunk : Chunk). chunk.place % c.args.new.align) c.chunk_between.ensures
    ∙ multiple c.args.place c.args.new c.args.old (omega arith) c.requires.aligned
