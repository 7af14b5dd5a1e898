use Rattle.bb_memory_lists.proofs.Positions as positions
use Rattle.bb_memory_lists.proofs.lists.position_law.Goals as goal

pub returns-clause-there : goal.returns-clause-there
returns-clause-there c start = positions.position-there

pub returns-clause-last : goal.returns-clause-last
returns-clause-last c start = positions.position-last
