use Rattle.bb_memory_c.proofs.InUse.{joined-missed, joined-refused, joined-takes}
use Rattle.bb_memory_c.proofs.shared_pool.JoinedPoolBucketed.take_later.Goals as goal
use Rattle.bb_memory_c.specs.SharedPools.{IsJoinedAt}
use Rattle.bb_memory_shared_pools.specs.SharedPool.{PoolParty, SharedPool}
use Rattle.bb_memory_shared_pools.specs.SharedPoolCaching.{CachingParty, MissesFirst, ServesCaching}
use Rattle.std.proofs.Common.{Ok, ap, arith, rules, set, subst, sym, true, ℕ, ◌∙◌, ◌≡◌}
use Rattle.std.specs.Arc.{arc_value}

pub take_later-requires : goal.take_later-requires
take_later-requires c = (
  omega arith,
  (
    search rules,
    (c.requires.0, subst (λ (p : CachingParty). MissesFirst c.requires.0 p) (sym c.self.view_is) c.requires.1),
  ),
)

pub invariant_of-self : goal.invariant_of-self
invariant_of-self c =
    let missed = subst (λ (p : CachingParty). MissesFirst c.requires.0 p) (sym c.self.view_is) c.requires.1 in
    joined-refused c.in_err-take_later.field-0.0 (joined-missed c.self.invariant missed)
    (c.in_err-take_later.ensures.answer c.requires.0 missed)

pub invariant_of-self-2 : goal.invariant_of-self-2
invariant_of-self-2 c =
    let list = c.self.inside.in_use.items in
    let noted = c.begin_use.ensures.noted ∙ ap (λ (n : ℕ). set list n true) c.number-number.ensures.value in
    let missed = subst (λ (p : CachingParty). MissesFirst c.requires.0 p) (sym c.self.view_is) c.requires.1 in
    subst (IsJoinedAt (arc_value c.self.inside.pool) c.take_later.new.self) (sym noted)
    (joined-takes c.in_ok-take_later.field-0 (joined-missed c.self.invariant missed)
    (c.in_ok-take_later.ensures.answer c.requires.0 missed))

pub returns-clause-may : goal.returns-clause-may
returns-clause-may c before missed =
    let token = c.in_ok-take_later.field-0 in
    let new = c.take_later.new.self in
    let own : c.self.inside.party.party.allocator ≡ c.deref.result.now = search rules in
    let its = ap (λ (p : CachingParty). p.party.allocator) c.self.view_is
    ∙ ap (λ (p : PoolParty). p.allocator) missed.party.logged in
    let begun = subst (λ (p : CachingParty). MissesFirst before p) (sym c.self.view_is) missed in
    let serves : ServesCaching before c.deref.result.now.scene.geometry.bucket (Ok token) new =
    c.in_ok-take_later.ensures.answer before begun in
    let at : token.allocator ≡ before.party.allocator = serves.serves.bucket in
    let long : token.len ≡ c.deref.result.now.scene.geometry.bucket.size = serves.serves.exact_size in (
      Ok token,
      search rules,
      subst (λ (p : SharedPool). ServesCaching before p.scene.geometry.bucket (Ok token) new) (sym own ∙ its) serves,
    )
