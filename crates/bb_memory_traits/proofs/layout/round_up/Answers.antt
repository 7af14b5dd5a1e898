use Rattle.bb_memory_traits.proofs.LeastPlaces.{least_place-is, least_place-masked, least_place-multiple, least_place-too_far}
use Rattle.bb_memory_traits.proofs.PowersOfTwo.{power_of_two-positive}
use Rattle.bb_memory_traits.proofs.layout.round_up.Goals as goal
use Rattle.std.proofs.Common.{ap, arith, bit_and, ◌%◌, ◌∙◌}

pub returns-in_err-checked_add-clause-value : goal.returns-in_err-checked_add-clause-value
returns-in_err-checked_add-clause-value c = grind (arith, least_place-too_far)

pub returns-clause-value : goal.returns-clause-value
returns-clause-value c = grind (arith, least_place-masked, bit_and)

pub returns-clause-above : goal.returns-clause-above
returns-clause-above c =
    let positive = power_of_two-positive c.args.align c.requires in
    omega (arith, (returns-clause-value c).1, (least_place-is c.args.v c.args.align positive).above)

pub returns-clause-aligned : goal.returns-clause-aligned
returns-clause-aligned c =
    let positive = power_of_two-positive c.args.align c.requires in
    ap (λ n. n % c.args.align) (returns-clause-value c).1 ∙ least_place-multiple c.args.v c.args.align positive
