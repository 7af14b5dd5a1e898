use Rattle.bb_memory_traits.proofs.Layouts.{empty-valid}
use Rattle.bb_memory_traits.proofs.layout.Layout.empty.Goals as goal

pub invariant_of-result : goal.invariant_of-result
invariant_of-result c = record { valid = empty-valid }
