use Rattle.bb_memory_traits.proofs.ApartBytes.{apart-kept}
use Rattle.bb_memory_traits.proofs.Written.{written-changes}
use Rattle.bb_memory_traits.proofs.region.region_law.Goals as goal

pub returns-clause-written : goal.returns-clause-written
returns-clause-written c = written-changes

pub returns-clause-others : goal.returns-clause-others
returns-clause-others c = apart-kept
