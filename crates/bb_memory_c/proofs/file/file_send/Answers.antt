use Rattle.bb_memory_c.proofs.file.file_send.Goals as goal
use Rattle.bb_memory_c_calls.proofs.OpenHandles.{answers}

pub returns-in-Some : goal.returns-in-Some
returns-in-Some c = answers c.in-Some.ensures.value (c.made_mut.follows.holds _) c.send.ensures
