use Rattle.bb_memory_c.proofs.shared_pool.PoolParties.place_of.Given as goal
use Rattle.bb_memory_c.specs.SharedPools.{IsNumberAt}
use Rattle.std.proofs.Common.{ℕ, ◌<◌}

abbrev pub invariant-loop-at : goal.invariant-loop-at
invariant-loop-at l = (k : ℕ) → k < l.at → ¬ IsNumberAt l.self.parties k l.number
