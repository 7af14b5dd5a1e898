use Rattle.bb_memory_c.proofs.shared_pool.bb_pool_party_give_all_back.Goals as goal
use Rattle.bb_memory_c_calls.proofs.OpenHandles.{answers}
use Rattle.std.proofs.Common.{refl}

pub returns : goal.returns
returns c = answers c.in-Some.ensures.value (c.made_mut.follows.holds _) (refl, c.give_all_back.ensures)
