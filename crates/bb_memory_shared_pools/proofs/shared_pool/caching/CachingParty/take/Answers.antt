use Rattle.bb_memory_shared_pools.proofs.shared_pool.caching.CachingParty.take.Goals as goal
use Rattle.bb_memory_shared_pools.specs.SharedPool.{PoolParty}
use Rattle.std.proofs.Common.{ap, arith, sym, ◌∙◌}

pub take_later-requires : goal.take_later-requires
take_later-requires g c =
    let missed = c.in-None.ensures.missed in (
      omega arith,
      (
        sym (ap (λ (p : PoolParty). p.allocator) (sym missed.party.logged)) ∙ c.requires.party,
        (c.args.self.now, missed),
      ),
    )
