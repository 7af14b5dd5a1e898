use Rattle.bb_memory_c.proofs.shared_pool.bb_shared_pool_holder.Goals as goal
use Rattle.bb_memory_c_calls.proofs.OpenHandles.{answers}
use Rattle.std.proofs.Common.{rules}

pub returns-then-number-number_of_buckets : goal.returns-then-number-number_of_buckets
returns-then-number-number_of_buckets c = answers c.in-Some.ensures.value (c.made_mut.follows.holds _) (search rules)

pub returns : goal.returns
returns c = answers c.in-Some.ensures.value (c.made_mut.follows.holds _) (search rules)
