use Rattle.bb_memory_bump.proofs.SharedBumpSeats.{opens}
use Rattle.bb_memory_bump.proofs.shared_bump.position.Position.open.Goals as goal
use Rattle.std.proofs.Common.{arith}

pub of_words-requires : goal.of_words-requires
of_words-requires c = grind (arith, opens)
