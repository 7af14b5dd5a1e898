use Rattle.bb_memory_index_set.proofs.NumberFlags.{put_behind}
use Rattle.bb_memory_index_set.proofs.Tallies.{left-released}
use Rattle.bb_memory_index_set.proofs.index_set.flags.FlagsIndexSet.release.Goals as goal
use Rattle.std.proofs.Common.{arith, false}
use Rattle.std.proofs.Math.Seq.{take-set-lt}
use Rattle.std.proofs.lemmas.Grind.{common_steps}

pub overflow_cast-self : goal.overflow_cast-self
overflow_cast-self g c =
    omega (arith, (put_behind g.row.N _ _ _ _ c.self.invariant.0 c.args.number (rw (← c.self.view_is) at c.requires)).0)

pub bounds-self-inside-left : goal.bounds-self-inside-left
bounds-self-inside-left g c =
    let is = c.self.invariant.0 in
    omega (arith, (put_behind g.row.N _ _ _ _ is c.args.number (rw (← c.self.view_is) at c.requires)).1, is.free_len, is.fits)

pub bounds-self-inside-number : goal.bounds-self-inside-number
bounds-self-inside-number g c =
    let is = c.self.invariant.0 in
    omega (arith, (put_behind g.row.N _ _ _ _ is c.args.number (rw (← c.self.view_is) at c.requires)).0, is.len, is.fits)

pub invariant_of-self : goal.invariant_of-self
invariant_of-self g c =
    let inside = c.self.inside in
    let has = rw (← c.self.view_is) at c.requires in
    let put = put_behind g.row.N _ _ _ _ c.self.invariant.0 c.args.number has in (
      put.2,
      omega (arith, c.self.invariant.1),
      left-released inside.bound inside.left inside.least c.args.number _ _ c.self.invariant.2 has
          (take-set-lt inside.bound inside.held c.args.number false put.0),
    )

pub returns-clause-released : goal.returns-clause-released
returns-clause-released g c = grind (arith, common_steps, take-set-lt)
