use Rattle.bb_memory_shared_pools.proofs.shared_pool.caching.CachingParty.return_detached.Goals as goal
use Rattle.bb_memory_shared_pools.specs.SharedPoolCaching.{CachingParty, IsOut}
use Rattle.std.proofs.Common.{subst, sym}

pub returns-clause-others_kept : goal.returns-clause-others_kept
unfolding IsOut
returns-clause-others_kept g c other out =
    let its = subst (λ (p : CachingParty). IsOut p other) (sym c.self.view_is) out in
    (c.return_detached.ensures.others_kept other its.0, its.1)
