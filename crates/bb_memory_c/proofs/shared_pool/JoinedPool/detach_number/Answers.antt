use Rattle.bb_memory_c.proofs.InUse.{joined-loses}
use Rattle.bb_memory_c.proofs.shared_pool.JoinedPool.detach_number.Goals as goal
use Rattle.bb_memory_c.specs.SharedPools.{IsJoinedAt}
use Rattle.bb_memory_shared_pools.specs.SharedPool.{TakenBucket}
use Rattle.bb_memory_shared_pools.specs.SharedPoolCaching.{CachingParty, IsOut}
use Rattle.std.proofs.Common.{ap, subst, sym, ◌∙◌}
use Rattle.std.specs.Arc.{arc_value}

pub invariant_of-self : goal.invariant_of-self
invariant_of-self c =
    let number = c.in-Some.number in
    let after = c.detach_number-told.new.self in
    let did = c.detach_number-told.ensures in
    let its = ap (λ (b : TakenBucket). b.number) c.bucket-bucket.ensures.value in
    let was = subst (λ (j : CachingParty). IsOut j number) (sym (c.self-2.view_is ∙ c.held_at.ensures.unchanged))
    c.in-Some.ensures.held.out in
    subst (IsJoinedAt (arc_value c.self-2.inside.pool) after) (sym c.note.ensures)
    (joined-loses number c.bucket-bucket.result.number its c.self-2.invariant
    (ap (λ (j : CachingParty). j.party.allocator) did.logged) (ap (λ (j : CachingParty). j.most) did.logged) was
    did.was_detached did.others_kept did.others)
