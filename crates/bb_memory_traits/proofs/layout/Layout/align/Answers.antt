use Rattle.bb_memory_traits.proofs.PowersOfTwo.{power_of_two-from_test}
use Rattle.bb_memory_traits.proofs.layout.Layout.align.Goals as goal

pub returns-clause-power_of_two : goal.returns-clause-power_of_two
returns-clause-power_of_two c = power_of_two-from_test _ c.args.self.now.valid.power_of_two
