use Rattle.bb_memory_shared_pools.proofs.SharedPoolCaching.{out_returned}
use Rattle.bb_memory_shared_pools.proofs.shared_pool.caching.CachingParty.detach_number.Goals as goal

pub invariant_of-self : goal.invariant_of-self
invariant_of-self g c = let before = c.self.inside in (
  out_returned c.args.self.now before.party c.detach_number.new.party before.cached.items before.most c.args.bucket.number
      c.self.view_is c.self.invariant.0 c.requires.out c.detach_number.ensures.party.others_kept,
  c.self.invariant.1,
  c.self.invariant.2,
  c.self.invariant.3,
)
