use Rattle.bb_memory_c.proofs.Unjoined.{one-more}
use Rattle.bb_memory_c.proofs.shared_pool.PoolPartiesSharesJoinedPool.take_back.Goals as goal
use Rattle.bb_memory_c.specs.SharedPools.{PoolParties, as_joined}
use Rattle.bb_memory_shared_pools.specs.SharedPool.{PoolParty}
use Rattle.bb_memory_shared_pools.specs.SharedPoolCaching.{CachingParty}
use Rattle.bb_memory_shared_pools.specs.SharedPoolLeaving.{GivesAllBack}
use Rattle.std.proofs.Common.{ap, arith, length, rules, subst, sym, ◌<◌, ◌∙◌}
use Rattle.std.specs.Arc.{arc_value}

pub invariant_of-self : goal.invariant_of-self
invariant_of-self c =
    let pool = arc_value c.self.inside.pool in
    let parties = ap (λ (s : PoolParties). length s.parties) c.self.view_is in
    let scene = ap (λ (s : PoolParties). s.shared.scene.parties) c.self.view_is in
    let out : length c.self.inside.parties.items < pool.scene.parties = omega (arith, parties, scene, c.requires.out) in
    let back = ap (λ (p : PoolParty). p.allocator) c.give_all_back.ensures.returned
    ∙ ap (λ (p : PoolParty). p.allocator) c.into_inner-party.ensures
    ∙ ap (λ (p : CachingParty). p.party.allocator) c.joined.view_is ∙ c.requires.theirs
    ∙ ap (λ (s : PoolParties). s.shared) (sym c.self.view_is) in
    one-more c.push_reserved.ensures.capacity c.give_all_back.new.party c.self.invariant out back c.push_reserved.ensures.items

pub returns : goal.returns
returns c = (
  as_joined c.give_all_back.new.party,
  subst (λ (p : PoolParty). GivesAllBack p c.give_all_back.new.party)
      (c.into_inner-party.ensures ∙ ap (λ (p : CachingParty). p.party) c.joined.view_is) c.give_all_back.ensures,
  search rules,
)
