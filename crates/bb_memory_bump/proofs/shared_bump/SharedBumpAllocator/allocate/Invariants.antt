use Rattle.bb_memory_bump.proofs.shared_bump.SharedBumpAllocator.allocate.Given as goal
use Rattle.std.proofs.Common.{Some}

abbrev pub ghosts-claim : goal.ghosts-claim
ghosts-claim a = record { layout = Some a.layout }
