use Rattle.bb_memory_shared_pools.proofs.shared_pool.stand_in.StandIns.like.Goals as goal
use Rattle.std.proofs.Common.{arith, refl}

pub load_new_seat-requires : goal.load_new_seat-requires
load_new_seat-requires g c = (let words = c.self.invariant in omega (arith, words), λ _ _ _ _. (g.L.Seen.view, tt, refl))
