use Rattle.bb_memory_owned.proofs.OneChunks.{stands_for_some}
use Rattle.bb_memory_owned.proofs.one_chunk_allocator.OneChunkAllocatorBaseAllocator.stands_for_some_list.Goals as goal
use Rattle.bb_memory_owned.specs.OneChunk.{OneChunk, StandsFor, one_chunk_of}
use Rattle.bb_memory_traits.specs.Chunk.{Chunk}
use Rattle.std.proofs.Common.{List, subst}

pub returns : goal.returns
returns c =
    let one = one_chunk_of c.self.inside.start c.self.inside.size c.self.inside.kept_place in
    subst (λ (o : OneChunk). (live : List Chunk) × StandsFor o live) c.self.view_is (stands_for_some one c.self.invariant)
