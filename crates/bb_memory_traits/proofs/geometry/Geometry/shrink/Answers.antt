use Rattle.bb_memory_traits.proofs.Measures.{bucket_place-multiple, placed}
use Rattle.bb_memory_traits.proofs.geometry.Geometry.shrink.Goals as goal
use Rattle.std.proofs.Common.{arith, ◌≤◌}

pub new_unchecked-requires : goal.new_unchecked-requires
new_unchecked-requires c =
    let reserved = rw (← c.self.view_is) at c.requires.reserved in
    (placed _ _ _ _ _ c.self.invariant c.args.place c.size-3.result (rw (← c.self.view_is) at c.requires.place) (omega arith)).0

pub returns-clause-inside : goal.returns-clause-inside
returns-clause-inside c =
    let reserved = rw (← c.self.view_is) at c.requires.reserved in
    rw (← c.self.view_is, c.new_unchecked.ensures)
    (placed _ _ _ _ _ c.self.invariant c.args.place c.size-3.result (rw (← c.self.view_is) at c.requires.place) (omega arith)).1

pub returns-clause-aligned : goal.returns-clause-aligned
returns-clause-aligned c =
    let fine : c.args.new.align ≤ c.args.self.now.bucket.align = rw (← c.self.view_is) (omega arith) in
    rw (c.new_unchecked.ensures, c.requires.place.2) (bucket_place-multiple c.args.self.now c.requires.place.0 c.args.new fine)
