use Rattle.bb_memory_bump.proofs.SharedBumpSeats.{merges}
use Rattle.bb_memory_bump.proofs.shared_bump.position.Position.merge.Goals as goal
use Rattle.std.proofs.Common.{arith}

pub join_seat-requires : goal.join_seat-requires
join_seat-requires c = grind (arith, merges)
