use Rattle.bb_memory_traits.proofs.Layouts.{usual-accepted, valid-up_to}
use Rattle.bb_memory_traits.proofs.layout.Layout.from_size_align.Goals as goal
use Rattle.std.proofs.Common.{arith, sym}
use Rattle.std.proofs.lemmas.Grind.{common_steps}

pub overflow_sub-align : goal.overflow_sub-align
overflow_sub-align c =
    (valid-up_to c.args.size c.args.align (sym c.if-not-is_power_of_two.ensures) c.ranges.align.fits).0

pub invariant_of-result : goal.invariant_of-result
invariant_of-result c = grind (arith, common_steps, valid-up_to)

pub returns-then-not-is_power_of_two-clause-usual : goal.returns-then-not-is_power_of_two-clause-usual
returns-then-not-is_power_of_two-clause-usual c = λ usual.
    let power = (usual-accepted c.args.size c.args.align usual).power_of_two in absurd (cc)

pub returns-then-size-align-clause-accepted : goal.returns-then-size-align-clause-accepted
returns-then-size-align-clause-accepted c = grind (arith, valid-up_to)

pub returns-then-size-align-clause-usual : goal.returns-then-size-align-clause-usual
returns-then-size-align-clause-usual c = grind arith
