use Rattle.bb_memory_c.proofs.shared_pool.JoinedPool.numbered.Goals as goal
use Rattle.bb_memory_c.specs.SharedPools.{HoldsPlace}
use Rattle.bb_memory_shared_pools.proofs.SharedPoolLaws.{held_below}
use Rattle.bb_memory_shared_pools.specs.SharedPool.{SharedPool}
use Rattle.bb_memory_shared_pools.specs.SharedPoolCaching.{CachingParty, IsOut}
use Rattle.bb_memory_traits.specs.Geometry.{IsPlaceOfBucket}
use Rattle.std.proofs.Common.{None, Option, Some, ap, subst, sym, ℕ, ◌∙◌}
use Rattle.std.specs.Prelude.{IfNone}

-- what follows if there is none
none-so : (told : Option ℕ) (A B : Type 0) → (A → B) → IfNone told A → IfNone told B
none-so None A B so is = so is
none-so (Some number) A B so is = tt

pub returns-clause-none : goal.returns-clause-none
unfolding IsOut
returns-clause-none c =
    let joined = c.args.self.now in
    let pool = sym (ap (λ (p : CachingParty). p.party.allocator) c.self.view_is) ∙ c.self.invariant.theirs
    ∙ sym c.deref.ensures in
    none-so c.number_at.result _ _ (λ away (held : HoldsPlace joined c.args.place). away
    (subst (λ (p : SharedPool). IsPlaceOfBucket p.scene.geometry c.args.place) pool
    (held.0, held_below joined.party c.invariant.ensures.party held.0 held.1.out.0, held.1.placed))) c.number_at.ensures.none
