use Rattle.bb_memory_index_set.proofs.NumberFlags.{has_flag, length-flags}
use Rattle.bb_memory_index_set.proofs.index_set.flags.FlagsIndexSet.has.Goals as goal
use Rattle.bb_memory_index_set.specs.IndexSets.{NumberSet}
use Rattle.std.proofs.Common.{ap, arith, length, ◌<◌}
use Rattle.std.proofs.lemmas.Grind.{common_steps}

pub bounds-self-inside-number : goal.bounds-self-inside-number
bounds-self-inside-number g c = grind (arith, common_steps)

pub returns : goal.returns
returns g c =
    let is = c.self.invariant.0 in
    let view = ap (λ (s : NumberSet). length s.numbers) c.self.view_is in
    let below : c.args.number < c.self.inside.bound = omega (arith, c.requires, view, length-flags g.row.N _ _ _ _ is) in
    rw (← c.self.view_is) (has_flag g.row.N _ _ _ _ is c.args.number below)
