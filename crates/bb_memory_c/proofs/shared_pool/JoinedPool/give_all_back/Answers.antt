use Rattle.bb_memory_c.proofs.InUse.{joined-cleared}
use Rattle.bb_memory_c.proofs.shared_pool.JoinedPool.give_all_back.Goals as goal
use Rattle.bb_memory_c.specs.SharedPools.{IsJoinedAt}
use Rattle.bb_memory_shared_pools.specs.SharedPool.{PoolParty}
use Rattle.std.proofs.Common.{ap, false, replicate, subst, sym, ℕ, ◌∙◌}
use Rattle.std.specs.Arc.{arc_value}

pub invariant_of-self : goal.invariant_of-self
invariant_of-self c =
    let after = c.give_all_back.new.self in
    let given = c.give_all_back.ensures in
    let cleared = c.fill.ensures.items (λ y same. same)
    ∙ ap (λ (n : ℕ). replicate n false) c.self.inside.in_use.ok.0 in
    subst (IsJoinedAt (arc_value c.self.inside.pool) after) (sym cleared)
    (joined-cleared after c.self.invariant (ap (λ (p : PoolParty). p.allocator) given.party.returned) given.most
    given.party.idle)
