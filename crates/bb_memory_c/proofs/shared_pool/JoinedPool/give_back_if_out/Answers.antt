use Rattle.bb_memory_c.proofs.InUse.{joined-loses, joined-noted}
use Rattle.bb_memory_c.proofs.shared_pool.JoinedPool.give_back_if_out.Goals as goal
use Rattle.bb_memory_c.specs.SharedPools.{IsJoinedAt, geometry_of}
use Rattle.bb_memory_shared_pools.specs.SharedPool.{SharedPool, TakenBucket}
use Rattle.bb_memory_shared_pools.specs.SharedPoolCaching.{CachingParty, IsOut}
use Rattle.std.proofs.Common.{ap, false, subst, sym, ◌<◌, ◌∙◌}
use Rattle.std.proofs.lemmas.Bool.{false≢true}
use Rattle.std.specs.Arc.{arc_value}

-- the party doesn't have the bucket in use, so its entry was clear before
pub invariant_of-self : goal.invariant_of-self
invariant_of-self c =
    let number = c.args.number in
    let after = c.end_use-was_in_use.new.party in
    let did = c.end_use-was_in_use.ensures in
    let same = did.unchanged in
    let below = subst (λ (p : SharedPool). number < p.scene.geometry.buckets) c.self.invariant.theirs
    (subst (λ (j : CachingParty). number < (geometry_of j).buckets) (sym c.self.view_is) c.requires) in
    subst (IsJoinedAt (arc_value c.self.inside.pool) after) (sym did.cleared)
    (joined-noted number false c.self.invariant (ap (λ (j : CachingParty). j.party.allocator) same)
    (ap (λ (j : CachingParty). j.most) same) (λ _. below) (
      λ wrong. absurd (false≢true wrong),
      λ out. absurd (false≢true (sym c.if-not-was_in_use.true ∙
          did.value.1 (subst (λ (j : CachingParty). IsOut j number) same out))),
    ) (λ other apart. (
      λ was. subst (λ (j : CachingParty). IsOut j other) (sym same) was,
      λ is. subst (λ (j : CachingParty). IsOut j other) same is,
    )))

pub invariant_of-self-2 : goal.invariant_of-self-2
invariant_of-self-2 c =
    let number = c.args.number in
    let list = c.self.inside.in_use.items in
    let after = c.deallocate.new.self in
    let did = c.end_use-was_in_use.ensures in
    let gone = c.deallocate.ensures in
    let its = ap (λ (b : TakenBucket). b.number) c.bucket-bucket.ensures.value in
    let at = subst (λ (j : CachingParty). IsJoinedAt (arc_value c.self.inside.pool) j list) (sym did.unchanged)
    c.self.invariant in
    let was = subst (λ (j : CachingParty). IsOut j number) (sym did.unchanged) (did.value.0 c.if-not-was_in_use.false) in
    subst (IsJoinedAt (arc_value c.self.inside.pool) after) (sym did.cleared)
    (joined-loses number c.bucket-bucket.result.number its at gone.party gone.most was gone.given_back gone.others_kept
    gone.others)
