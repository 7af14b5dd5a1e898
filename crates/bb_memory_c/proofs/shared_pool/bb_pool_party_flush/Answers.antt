use Rattle.bb_memory_c.proofs.InUse.{joined-same}
use Rattle.bb_memory_c.proofs.shared_pool.bb_pool_party_flush.Goals as goal
use Rattle.bb_memory_c_calls.proofs.OpenHandles.{answers}
use Rattle.bb_memory_shared_pools.specs.SharedPoolCaching.{CachingParty, IsOut}
use Rattle.std.proofs.Common.{ap, rules}

pub invariant_of-joined : goal.invariant_of-joined
unfolding IsOut
invariant_of-joined c =
    let did = c.flush.ensures in
    joined-same c.joined.invariant (ap (λ (j : CachingParty). j.party.allocator) did.logged)
    (ap (λ (j : CachingParty). j.most) did.logged) (λ other. (did.others_kept other, λ out. did.others other out.0))

pub returns : goal.returns
returns c = answers c.in-Some.ensures.value (c.made_mut.follows.holds _) (search rules)
