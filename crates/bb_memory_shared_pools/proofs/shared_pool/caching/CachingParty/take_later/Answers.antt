use Rattle.bb_memory_shared_pools.proofs.SharedPoolCaching.{serves_searched}
use Rattle.bb_memory_shared_pools.proofs.shared_pool.caching.CachingParty.take_later.Goals as goal
use Rattle.bb_memory_shared_pools.specs.SharedPool.{PoolParty}
use Rattle.bb_memory_shared_pools.specs.SharedPoolCaching.{CachingParty}
use Rattle.bb_memory_shared_pools.specs.SharedPoolNextFit.{BeginsSearch}
use Rattle.std.proofs.Common.{ap, arith, subst, sym, ◌∙◌}

pub take_later-requires : goal.take_later-requires
take_later-requires g c =
    let begun = c.requires.begun.1 in (
      omega arith,
      (
        ap (λ (p : CachingParty). p.party.allocator) c.self.view_is ∙ c.requires.party,
        (
          c.requires.begun.0.party,
          subst (λ (p : CachingParty). BeginsSearch c.requires.begun.0.party p.party) (sym c.self.view_is) begun.party,
        ),
      ),
    )

pub returns-clause-answer : goal.returns-clause-answer
returns-clause-answer g c before begun =
    let its = subst (λ (p : CachingParty). BeginsSearch before.party p.party) (sym c.self.view_is) begun.party in
    let same = c.self.view_is ∙ begun.unchanged in
    serves_searched c.args.pool.now before _ c.args.pool.now.scene.geometry.bucket c.take_later.result
    (sym (ap (λ (p : PoolParty). p.allocator) begun.party.logged) ∙ c.requires.party) begun.none_cached
    (λ i. record { party = c.take_later.new.party; cached = (same i).cached; most = (same i).most })
    (c.take_later.ensures.answer before.party its) (c.take_later.ensures.serves before.party its) c.take_later.ensures.party
