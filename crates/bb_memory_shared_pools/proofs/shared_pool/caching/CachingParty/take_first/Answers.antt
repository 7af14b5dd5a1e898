use Rattle.bb_memory_shared_pools.proofs.SharedPoolCaching.{misses_first, serves_cached}
use Rattle.bb_memory_shared_pools.proofs.shared_pool.caching.CachingParty.take_first.Goals as goal
use Rattle.bb_memory_shared_pools.specs.SharedPool.{TakenBucket}
use Rattle.bb_memory_shared_pools.specs.SharedPoolCaching.{CachingParty}
use Rattle.bb_memory_shared_pools.specs.SharedPoolNextFit.{BeginsSearch}
use Rattle.std.proofs.Common.{None, Option, Some, [], ap, append-nil, arith, rules, subst, sym, ◌∙◌, ◌≡◌}
use Rattle.std.specs.Prelude.{IfNone}

-- the bucket that was cached last
pub returns-in-Some-clause-taken : goal.returns-in-Some-clause-taken
returns-in-Some-clause-taken g c =
    let before = c.self.inside in
    serves_cached c.args.pool.now c.args.self.now before.party before.cached.items c.pop.new.self.items before.most
    c.in-Some.number c.bucket_size-len.result c.bucket-bucket.result c.args.pool.now.scene.geometry.bucket c.self.view_is
    c.requires.party c.number.ensures.party c.self.invariant.0 c.in-Some.ensures.items c.bucket-bucket.ensures.value
    c.bucket_size-len.ensures.value (record { size = omega arith; align = omega arith })

-- the first probe missed
if_none : {A B : Type 0} (result : Option TakenBucket) → (A → B) → IfNone result A → IfNone result B
if_none None so given = so given
if_none (Some bucket) so given = tt

pub returns-in-None-clause-missed : goal.returns-in-None-clause-missed
returns-in-None-clause-missed g c =
    let old = c.args.self.now in
    let new = c.take_first.new.party in
    let now : c.pop.new.self.items ≡ [] = search rules in
    let none : old.cached ≡ [] =
    ap (λ (p : CachingParty). p.cached) (sym c.self.view_is) ∙ c.in-None.ensures.items ∙ append-nil _ ∙ now in
    if_none c.take_first.result (λ begun. misses_first old _ none
    (subst (λ (p : CachingParty). BeginsSearch p.party new) c.self.view_is begun)
    (λ i. record { party = new; cached = (now ∙ sym none) i; most = (c.self.view_is i).most })) c.take_first.ensures.missed
