use Rattle.bb_memory_bump.proofs.bump_allocator.BumpAllocatorBaseAllocator.stands_for_some_list.Goals as goal
use Rattle.bb_memory_bump.specs.Bump.{Bump, bump_of}
use Rattle.bb_memory_traits.proofs.LiveLists.{stands_for_some}
use Rattle.bb_memory_traits.specs.BumpObject.{StandsFor}
use Rattle.bb_memory_traits.specs.Chunk.{Chunk}
use Rattle.std.proofs.Common.{List, subst, ◌+◌, ◌-◌}

pub returns : goal.returns
returns c =
    let bump = bump_of c.self.inside.start c.self.inside.size (c.self.inside.last + 1 - c.self.inside.start) in
    subst (λ (b : Bump). (live : List Chunk) × StandsFor b.region b.used live) c.self.view_is
    (stands_for_some bump.region bump.used c.self.invariant.0.used)
