use Rattle.bb_memory_bump.proofs.bump_allocator.BumpAllocatorBaseAllocator.allocate.Goals as goal
use Rattle.bb_memory_bump.specs.Bump.{Bump, bump_of}
use Rattle.bb_memory_traits.proofs.LiveLists.{StandsFor-end, StandsFor-push}
use Rattle.bb_memory_traits.specs.BumpObject.{StandsFor}
use Rattle.bb_memory_traits.specs.Chunk.{Chunk, chunk_end}
use Rattle.std.proofs.Common.{[], ap, arith, subst, sym, ◌++◌, ◌+◌, ◌-◌, ◌∙◌, ◌∷◌, ◌≡◌}

pub returns-in_default-clause-answer : goal.returns-in_default-clause-answer
returns-in_default-clause-answer c = grind (arith, StandsFor-end)

pub returns-clause-answer : goal.returns-clause-answer
returns-clause-answer c = grind (arith, StandsFor-end)

pub returns-clause-appended : goal.returns-clause-appended
returns-clause-appended c = λ live stands.
    let chunk = c.in-Some.chunk in
    let bump = bump_of c.self.inside.start c.self.inside.size (c.self.inside.last + 1 - c.self.inside.start) in
    let here = subst (λ (b : Bump). StandsFor b.region b.used live) (sym c.self.view_is) stands in
    let back : bump.region.start + bump.used ≡ c.self.inside.last + 1 = omega (arith, c.self.invariant.1) in
    let end = sym back ∙ StandsFor-end bump.region bump.used live here in
    let told = c.in-Some.ensures in
    let used : chunk_end chunk - bump.region.start ≡ chunk_end chunk - 1 + 1 - bump.region.start =
    omega (arith, told.above, c.self.invariant.1) in
    rw c.end.ensures (subst (λ n. StandsFor bump.region n (live ++ chunk ∷ [])) used
    (StandsFor-push bump.region bump.used live chunk here (omega (arith, told.above, end, back))
    (omega (arith, told.value.0, ap (λ (k : Chunk). chunk_end k) told.value.1))))
