use Rattle.bb_memory_traits.proofs.Layouts.{within-valid}
use Rattle.bb_memory_traits.proofs.PowersOfTwo.{power_of_two-from_test, power_of_two-test}
use Rattle.bb_memory_traits.proofs.layout.Layout.within.Goals as goal
use Rattle.std.proofs.Common.{arith, sym}
use Rattle.std.proofs.lemmas.Bool.{false≢true}

pub returns-then-not-is_power_of_two-clause-some : goal.returns-then-not-is_power_of_two-clause-some
returns-then-not-is_power_of_two-clause-some c = grind (arith, false≢true, power_of_two-test)

pub invariant_of-result : goal.invariant_of-result
invariant_of-result c = record {
  valid = within-valid c.args.size c.args.align c.args.self c.if-size-self.false c.if-align-self.false
      (power_of_two-from_test c.args.align (sym c.if-not-is_power_of_two.ensures));
}

pub returns-clause-some : goal.returns-clause-some
returns-clause-some c = grind (arith, power_of_two-from_test)
