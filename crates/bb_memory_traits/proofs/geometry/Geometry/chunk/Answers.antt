use Rattle.bb_memory_traits.proofs.Measures.{measured-place, placed}
use Rattle.bb_memory_traits.proofs.geometry.Geometry.chunk.Goals as goal

pub new_unchecked-requires : goal.new_unchecked-requires
new_unchecked-requires c =
    (placed _ _ _ _ _ c.self.invariant _ c.args.len (
      c.args.bucket,
      rw (← c.self.view_is) at c.requires.below,
      measured-place _ _ _ _ _ c.self.invariant c.args.bucket,
    ) (rw (← c.self.view_is) at c.requires.short)).0

pub returns-clause-inside : goal.returns-clause-inside
returns-clause-inside c =
    rw (← c.self.view_is, c.new_unchecked.ensures)
    (placed _ _ _ _ _ c.self.invariant _ c.args.len (
      c.args.bucket,
      rw (← c.self.view_is) at c.requires.below,
      measured-place _ _ _ _ _ c.self.invariant c.args.bucket,
    ) (rw (← c.self.view_is) at c.requires.short)).1
