use Rattle.bb_memory_c.proofs.shared_pool.bb_pool_party_cache.Goals as goal
use Rattle.bb_memory_c_calls.proofs.OpenHandles.{answers}
use Rattle.std.proofs.Common.{rules}

pub returns-in-Ok : goal.returns-in-Ok
returns-in-Ok c = answers c.in-Some.ensures.value (c.made_mut.follows.holds _) (search rules)

pub returns-in-Err : goal.returns-in-Err
returns-in-Err c = answers c.in-Some.ensures.value (c.made_mut.follows.holds _) (search rules)
