use Rattle.bb_memory_seats.specs.Seats.{number_of, view_log}
use Rattle.bb_memory_shared_pools.proofs.SharedPoolNextFit.{hint-misses, hint_by_search, search_lost, search_took}
use Rattle.bb_memory_shared_pools.proofs.SharedPoolParties.{is_party, seated_then}
use Rattle.bb_memory_shared_pools.proofs.SharedPoolRequests.{refused, refused_unasked, served, unasked}
use Rattle.bb_memory_shared_pools.proofs.shared_pool.buckets.SharedBucketPool.allocate_next_fit.Goals as goal
use Rattle.bb_memory_shared_pools.specs.SharedPool.{IsParty, PoolParty, SharedPool}
use Rattle.bb_memory_traits.specs.Geometry.{Admits}
use Rattle.bb_memory_traits.specs.PoolObject.{IsWithin, PoolGeometry}
use Rattle.bb_memory_traits.specs.declared.allocator.AllocationError.TheVariants.{OutOfMemory}
use Rattle.std.proofs.Common.{ap, refl, rules, subst, sym, ◌∙◌, ◌≡◌}
use Rattle.std.specs.Prelude.{Err}

-- refused without a step
pub returns-in_err-admit : goal.returns-in_err-admit
returns-in_err-admit g c =
    let party = c.args.party.now in
    let error = c.in_err-admit.field-0.0 in
    let told : c.from_residual.result ≡ Err error = search rules in
    let geometry = c.geometry.ensures.value ∙ ap (λ (p : SharedPool). p.scene.geometry) c.self.view_is in
    let refused = subst (λ (x : PoolGeometry). Admits x.bucket c.args.layout (Err error)) geometry c.in_err-admit.ensures in
    let its = subst (λ (p : SharedPool). Admits p.scene.geometry.bucket c.args.layout (Err error)) (sym c.requires.party)
    refused in
    let is = subst IsParty c.party.view_is (is_party _ _ _ _ c.party.invariant) in
    rw told record {
      answer = refused_unasked party _ c.args.layout error its;
      party = c.requires.party;
      serves = unasked c.args.self.now party c.args.layout error is refused;
    }

-- the first probe took the bucket at the hint
pub invariant_of-party : goal.invariant_of-party
invariant_of-party g c =
    let party = c.party.inside in
    let own = ap (λ (p : PoolParty). p.allocator) c.party.view_is ∙ c.requires.party in
    let me = party.seat.me in
    let took = c.if-try_first.ensures.step.step in
    seated_then c.args.self.now party.seat.table_id me party.number party.hint c.party.invariant own
    c.try_first.new.seat.me _ c.follow_first.new.self
    (c.follow_first.ensures
    ∙ hint_by_search c.args.self.now.scene.geometry.buckets (number_of me.0) party.hint.bucket took.probe
    party.hint.bucket party.hint took.there)
    took.ended

pub returns-then-try_first-clause-serves : goal.returns-then-try_first-clause-serves
returns-then-try_first-clause-serves g c =
    let old = c.party.inside in
    let new = c.try_first.new.seat in
    let geometry = c.geometry.ensures.value ∙ ap (λ (p : SharedPool). p.scene.geometry) c.self.view_is in
    let within = subst (λ (x : PoolGeometry). IsWithin x.bucket c.args.layout) geometry c.in_ok-admit.ensures in
    rw c.taken.ensures
    (served c.args.self.now old.seat.table_id new.table_id old.seat.me new.me old.number old.hint _ _ c.args.party.now
    c.args.layout c.party.invariant (invariant_of-party g c) c.party.view_is c.requires.party c.args.self.now
    old.hint.bucket c.size.result
    (search_took c.args.self.now.scene (number_of old.seat.me.0) (view_log old.seat.me.0) old.hint.bucket new.me old.hint.bucket
    c.if-try_first.ensures.step.step)
    refl c.size.ensures within.size within.align)

-- a later probe took a bucket
pub invariant_of-party-2 : goal.invariant_of-party-2
invariant_of-party-2 g c =
    let party = c.party.inside in
    let own = ap (λ (p : PoolParty). p.allocator) c.party.view_is ∙ c.requires.party in
    let me = party.seat.me in
    let took = c.in-Some.ensures.step.step (number_of me.0) (view_log me.0) c.if-try_first.ensures.step.step in
    seated_then c.args.self.now party.seat.table_id me party.number party.hint c.party.invariant own
    c.search_on-later.new.seat.me _ c.search_on-later.new.hint
    (c.in-Some.ensures.moved
    ∙ hint_by_search c.args.self.now.scene.geometry.buckets (number_of me.0) party.hint.bucket took.probe
    c.in-Some.number party.hint took.there)
    took.ended

pub returns-clause-serves : goal.returns-clause-serves
returns-clause-serves g c =
    let old = c.party.inside in
    let new = c.search_on-later.new.seat in
    let number = number_of old.seat.me.0 in
    let log = view_log old.seat.me.0 in
    let geometry = c.geometry.ensures.value ∙ ap (λ (p : SharedPool). p.scene.geometry) c.self.view_is in
    let within = subst (λ (x : PoolGeometry). IsWithin x.bucket c.args.layout) geometry c.in_ok-admit.ensures in
    rw c.taken-2.ensures
    (served c.args.self.now old.seat.table_id new.table_id old.seat.me new.me old.number old.hint _ _ c.args.party.now
    c.args.layout c.party.invariant (invariant_of-party-2 g c) c.party.view_is c.requires.party c.args.self.now
    c.in-Some.number c.size-2.result
    (search_took c.args.self.now.scene number log old.hint.bucket new.me c.in-Some.number
    (c.in-Some.ensures.step.step number log c.if-try_first.ensures.step.step))
    refl c.size-2.ensures within.size within.align)

-- each probe missed
pub invariant_of-party-in_default : goal.invariant_of-party-in_default
invariant_of-party-in_default g c =
    let party = c.party.inside in
    let own = ap (λ (p : PoolParty). p.allocator) c.party.view_is ∙ c.requires.party in
    let me = party.seat.me in
    let buckets = c.args.self.now.scene.geometry.buckets in
    let lost = c.in_default.ensures.step.step (number_of me.0) (view_log me.0) c.if-try_first.ensures.step.step in
    seated_then c.args.self.now party.seat.table_id me party.number party.hint c.party.invariant own
    c.search_on-later.new.seat.me _ c.search_on-later.new.hint
    (c.in_default.ensures.stays ∙ hint-misses buckets (number_of me.0) party.hint.bucket buckets party.hint) lost.ended

pub returns-in_default-clause-serves : goal.returns-in_default-clause-serves
returns-in_default-clause-serves g c =
    let old = c.party.inside in
    let new = c.search_on-later.new.seat in
    let number = number_of old.seat.me.0 in
    let log = view_log old.seat.me.0 in
    refused c.args.self.now old.seat.table_id new.table_id old.seat.me new.me old.number old.hint _ _ c.args.party.now
    c.args.layout c.party.invariant (invariant_of-party-in_default g c) c.party.view_is c.requires.party OutOfMemory
    (search_lost c.args.self.now.scene number log old.hint.bucket new.me
    (c.in_default.ensures.step.step number log c.if-try_first.ensures.step.step))
