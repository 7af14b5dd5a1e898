use Rattle.bb_memory_index_set.proofs.NumberFlags.{all_held, lacked}
use Rattle.bb_memory_index_set.proofs.NumberSets.{full_lacks_none}
use Rattle.bb_memory_index_set.proofs.index_set.flags.FlagsIndexSet.has_room.Goals as goal
use Rattle.std.proofs.Common.{arith, get_or, inl, inr, ◌-◌}
use Rattle.std.proofs.lemmas.Bool.{cases_lt, lt-ltb, ltb-true}

pub returns : goal.returns
returns g c =
    let inside = c.self.inside in
    let is = c.self.invariant.0 in (
      λ has. (
        get_or inside.free (inside.left - 1) 0,
        rw (← c.self.view_is) (lacked g.row.N inside.bound inside.held inside.free inside.left is (ltb-true 0 inside.left has)).1,
      ),
      λ free. elim (cases_lt 0 inside.left) [
        | inl some ↦ lt-ltb 0 inside.left some
        | inr none ↦ absurd (full_lacks_none c.args.self.now.numbers free.0 (rw (← c.self.view_is)
            (all_held g.row.N inside.bound inside.held inside.free inside.left is (omega (arith, none)))) free.1)
      ],
    )
