use Rattle.bb_memory_c.proofs.file.bb_file_party_flush.Goals as goal
use Rattle.bb_memory_c_calls.proofs.OpenHandles.{answers}
use Rattle.std.proofs.Common.{refl}

pub returns : goal.returns
returns c = answers c.in-Some.ensures.value (c.made_mut.follows.holds _) (refl, c.flush.ensures)
