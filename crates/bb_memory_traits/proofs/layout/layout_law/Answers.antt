use Rattle.bb_memory_traits.proofs.Layouts.{layout-plain}
use Rattle.bb_memory_traits.proofs.Layouts as layouts
use Rattle.bb_memory_traits.proofs.layout.layout_law.Goals as goal

pub returns-clause-valid : goal.returns-clause-valid
returns-clause-valid c = layout-plain

pub returns-clause-multiple : goal.returns-clause-multiple
returns-clause-multiple c = layouts.multiple
