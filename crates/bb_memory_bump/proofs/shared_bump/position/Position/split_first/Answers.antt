use Rattle.bb_memory_bump.proofs.SharedBumpSeats.{gives_first}
use Rattle.bb_memory_bump.proofs.shared_bump.position.Position.split_first.Goals as goal
use Rattle.std.proofs.Common.{arith}

pub split_seat-requires : goal.split_seat-requires
split_seat-requires c = grind (arith, gives_first)
