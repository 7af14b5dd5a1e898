use Rattle.bb_memory_shared_pools.proofs.SharedPoolParties.{seated_by_number}
use Rattle.bb_memory_shared_pools.proofs.shared_pool.buckets.SharedBucketPool.attach_number.Goals as goal
use Rattle.bb_memory_shared_pools.specs.SharedPool.{PoolParty}
use Rattle.std.proofs.Common.{ap, sym, ◌∙◌}

pub invariant_of-party : goal.invariant_of-party
invariant_of-party g c =
    let party = c.party.inside in
    let own = ap (λ (p : PoolParty). p.allocator) c.party.view_is ∙ c.requires.party ∙ sym c.self.view_is in
    seated_by_number c.self.inside.flags party.seat.table_id party.seat.me party.number party.hint c.party.invariant own
    c.attach_number.result c.attach_number.new.seat.me c.args.number c.args.from c.attach_number.ensures.step
