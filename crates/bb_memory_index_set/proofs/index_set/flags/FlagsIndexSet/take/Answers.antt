use Rattle.bb_memory_index_set.proofs.NumberFlags.{all_held, lacked, taken_off}
use Rattle.bb_memory_index_set.proofs.Tallies.{left-taken, most-taken}
use Rattle.bb_memory_index_set.proofs.index_set.flags.FlagsIndexSet.take.Goals as goal
use Rattle.std.proofs.Common.{arith, get_or, true, ◌-◌}
use Rattle.std.proofs.Math.Seq.{take-set-lt}

pub returns-then-self-eq0-clause-full : goal.returns-then-self-eq0-clause-full
returns-then-self-eq0-clause-full g c =
    rw (← c.self.view_is) (all_held g.row.N _ _ _ _ c.self.invariant.0 (omega arith))

pub returns-clause-lacked : goal.returns-clause-lacked
returns-clause-lacked g c = rw (← c.self.view_is) (lacked g.row.N _ _ _ _ c.self.invariant.0 (omega arith)).1

pub returns-clause-taken : goal.returns-clause-taken
returns-clause-taken g c = grind (arith, take-set-lt)

pub returns-clause-most : goal.returns-clause-most
returns-clause-most g c =
    let inside = c.self.inside in
    let is = c.self.invariant.0 in
    let last = lacked g.row.N _ _ _ _ is (omega arith) in
    rw (← c.self.view_is) (most-taken inside.bound inside.left inside.least c.lower.new.least
    (get_or inside.free (inside.left - 1) 0) _ _ c.self.invariant.2 last.1 (take-set-lt inside.bound inside.held _ true last.0)
    c.lower.ensures (omega arith) is.listing.fits)

pub invariant_of-self : goal.invariant_of-self
invariant_of-self g c =
    let inside = c.self.inside in
    let is = c.self.invariant.0 in
    let last = lacked g.row.N _ _ _ _ is (omega arith) in (
      taken_off g.row.N _ _ _ _ is (omega arith),
      omega (arith, c.lower.ensures),
      left-taken inside.bound inside.left inside.least c.lower.new.least (get_or inside.free (inside.left - 1) 0) _ _
          c.self.invariant.2 last.1 (take-set-lt inside.bound inside.held _ true last.0) c.lower.ensures (omega arith)
          is.listing.fits,
    )
