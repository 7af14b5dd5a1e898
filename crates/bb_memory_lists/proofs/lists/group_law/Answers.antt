use Rattle.bb_memory_lists.proofs.GroupSums as groups
use Rattle.bb_memory_lists.proofs.lists.group_law.Goals as goal

pub returns : goal.returns
returns c start = record { together = groups.together _ _; within = groups.within _ _ }
