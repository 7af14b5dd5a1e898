use Rattle.bb_memory_seats.specs.Seats.{number_of, view_log}
use Rattle.bb_memory_shared_pools.proofs.SharedPoolNextFit.{hint_by_search, search_took}
use Rattle.bb_memory_shared_pools.proofs.SharedPoolParties.{seated_then}
use Rattle.bb_memory_shared_pools.proofs.SharedPoolRequests.{served}
use Rattle.bb_memory_shared_pools.proofs.shared_pool.buckets.SharedBucketPool.take_first.Goals as goal
use Rattle.bb_memory_shared_pools.specs.SharedPool.{PoolParty}
use Rattle.std.proofs.Common.{ap, arith, refl, ◌∙◌}

pub invariant_of-party-2 : goal.invariant_of-party-2
invariant_of-party-2 g c =
    let party = c.party.inside in
    let own = ap (λ (p : PoolParty). p.allocator) c.party.view_is ∙ c.requires.party in
    let me = party.seat.me in
    let took = c.if-not-try_first.ensures.step.step in
    seated_then c.args.self.now party.seat.table_id me party.number party.hint c.party.invariant own
    c.try_first.new.seat.me _ c.follow_first.new.self
    (c.follow_first.ensures
    ∙ hint_by_search c.args.self.now.scene.geometry.buckets (number_of me.0) party.hint.bucket took.probe
    party.hint.bucket party.hint took.there)
    took.ended

pub returns-clause-serves : goal.returns-clause-serves
returns-clause-serves g c =
    let old = c.party.inside in
    let new = c.try_first.new.seat in
    rw c.taken.ensures
    (served c.args.self.now old.seat.table_id new.table_id old.seat.me new.me old.number old.hint _ _ c.args.party.now
    c.args.self.now.scene.geometry.bucket c.party.invariant (invariant_of-party-2 g c) c.party.view_is c.requires.party
    c.args.self.now old.hint.bucket c.bucket_size.result
    (search_took c.args.self.now.scene (number_of old.seat.me.0) (view_log old.seat.me.0) old.hint.bucket new.me old.hint.bucket
    c.if-not-try_first.ensures.step.step)
    refl c.bucket_size.ensures.value (omega arith) (omega arith))
