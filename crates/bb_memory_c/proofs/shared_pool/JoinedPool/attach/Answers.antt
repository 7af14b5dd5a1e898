use Rattle.bb_memory_c.proofs.InUse.{joined-gains}
use Rattle.bb_memory_c.proofs.shared_pool.JoinedPool.attach.Goals as goal
use Rattle.bb_memory_c.specs.SharedPools.{IsJoinedAt}
use Rattle.bb_memory_shared_pools.specs.SharedPool.{SharedPool, TakenBucket}
use Rattle.bb_memory_shared_pools.specs.SharedPoolCaching.{CachingParty, IsOut}
use Rattle.std.proofs.Common.{ap, subst, sym, ℕ, ◌<◌, ◌∙◌}
use Rattle.std.specs.Arc.{arc_value}

pub invariant_of-self : goal.invariant_of-self
invariant_of-self c =
    let after = c.attach-bucket.new.self in
    let did = c.attach-bucket.ensures in
    let its = c.number.ensures.value ∙ ap (λ (b : TakenBucket). b.number) did.bucket in
    let pool = ap (λ (b : TakenBucket). b.allocator) did.bucket ∙ c.in-Ok.ensures.its
    ∙ ap (λ (j : CachingParty). j.party.allocator) (sym c.self.view_is) ∙ c.self.invariant.theirs in
    let below = subst (λ (p : SharedPool). c.number.result < p.scene.geometry.buckets) pool c.number.ensures.below in
    subst (IsJoinedAt (arc_value c.self.inside.pool) after) (sym c.note.ensures)
    (joined-gains c.number.result c.self.invariant (ap (λ (j : CachingParty). j.party.allocator) did.logged)
    (ap (λ (j : CachingParty). j.most) did.logged) below (subst (λ (n : ℕ). IsOut after n) (sym its) did.attached)
    did.others_kept (λ other apart. did.others other (λ same. apart (same ∙ sym its))))
