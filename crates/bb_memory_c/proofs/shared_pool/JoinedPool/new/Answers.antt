use Rattle.bb_memory_c.proofs.InUse.{joined-fresh}
use Rattle.bb_memory_c.proofs.shared_pool.JoinedPool.new.Goals as goal
use Rattle.bb_memory_shared_pools.specs.SharedPoolCaching.{CachingParty}
use Rattle.std.proofs.Common.{ap, rules, sym, ◌∙◌}

pub invariant_of-joined : goal.invariant_of-joined
invariant_of-joined c =
    let made = c.in_ok-party.ensures.empty in
    joined-fresh (ap (λ (p : CachingParty). p.party.allocator) made ∙ c.requires ∙ sym c.in-Ok.ensures)
    (ap (λ (p : CachingParty). p.most) made) (search rules)
