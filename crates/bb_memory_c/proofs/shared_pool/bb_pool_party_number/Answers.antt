use Rattle.bb_memory_c.proofs.shared_pool.bb_pool_party_number.Goals as goal
use Rattle.bb_memory_c_calls.proofs.OpenHandles.{answers}
use Rattle.std.proofs.Common.{rules}

pub returns-in-Some : goal.returns-in-Some
returns-in-Some c = answers c.in-Some.ensures.value (c.made_mut.follows.holds _) (search rules)
