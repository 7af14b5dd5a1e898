use Rattle.owner_tests.proofs.tests.owner.Owner.deallocate.Goals as goal
use Rattle.std.proofs.Common.{arith}
use Rattle.std.proofs.lemmas.Grind.{elements}

pub deallocate-requires : goal.deallocate-requires
deallocate-requires g c = grind (arith, elements)

pub invariant_of-self-else-RELEASE_EMPTIES : goal.invariant_of-self-else-RELEASE_EMPTIES
invariant_of-self-else-RELEASE_EMPTIES g c = grind (arith, elements)
