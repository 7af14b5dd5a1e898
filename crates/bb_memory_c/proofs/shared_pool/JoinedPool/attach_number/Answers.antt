use Rattle.bb_memory_c.proofs.InUse.{joined-gains}
use Rattle.bb_memory_c.proofs.shared_pool.JoinedPool.attach_number.Goals as goal
use Rattle.bb_memory_c.specs.SharedPools.{IsJoinedAt}
use Rattle.bb_memory_shared_pools.specs.SharedPool.{SharedPool}
use Rattle.bb_memory_shared_pools.specs.SharedPoolCaching.{CachingParty}
use Rattle.std.proofs.Common.{ap, arith, subst, sym, ◌<◌}
use Rattle.std.specs.Arc.{arc_value}

pub invariant_of-self-2 : goal.invariant_of-self-2
invariant_of-self-2 c =
    let did = c.attach_number.ensures.won c.if-not-attach_number.false in
    let below = subst (λ (p : SharedPool). c.args.number < p.scene.geometry.buckets) c.deref.ensures
    (omega (arith, c.if-buckets-number.false, c.number_of_buckets-buckets.ensures.value)) in
    subst (IsJoinedAt (arc_value c.self.inside.pool) c.attach_number.new.self) (sym c.note.ensures)
    (joined-gains c.args.number c.self.invariant (ap (λ (j : CachingParty). j.party.allocator) did.logged)
    (ap (λ (j : CachingParty). j.most) did.logged) below did.attached did.others_kept did.others)
