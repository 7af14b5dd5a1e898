use Rattle.bb_memory_pool_machine.specs.PoolMachine.{PoolScene}
use Rattle.bb_memory_shared_pools.proofs.SharedPoolMerges.{all_merged, met_detached_at, met_undetached_at}
use Rattle.bb_memory_shared_pools.proofs.shared_pool.buckets.SharedBucketPool.has_detached.Goals as goal
use Rattle.bb_memory_shared_pools.specs.SharedPool.{PoolParty, SharedPool}
use Rattle.bb_memory_shared_pools.specs.SharedPoolRule.{AfterMeetingLooks, NumberedLog, numbered_of}
use Rattle.std.proofs.Common.{Bool, List, [], ap, arith, length, map, subst, ◌≡◌}
use Rattle.std.proofs.lemmas.Grind.{elements}

pub meet_detached-told-requires-clause-seat : goal.meet_detached-told-requires-clause-seat
meet_detached-told-requires-clause-seat g c = grind arith

pub meet_detached-told-requires-clause-rest : goal.meet_detached-told-requires-clause-rest
meet_detached-told-requires-clause-rest g c = grind (arith, elements)

-- the looks of a seat are those of all parties
looks_of : (was scene : PoolScene) (parties : List NumberedLog) (items : List PoolParty) (told : Bool) →
    was ≡ scene → parties ≡ map numbered_of items → AfterMeetingLooks was parties told →
    AfterMeetingLooks scene (map numbered_of items) told
looks_of was scene parties items told same all looks =
    subst (λ (s : PoolScene). AfterMeetingLooks s (map numbered_of items) told) same
    (subst (λ (list : List NumberedLog). AfterMeetingLooks was list told) all looks)

pub returns-clause-detached : goal.returns-clause-detached
returns-clause-detached g c =
    let scene = c.args.self.now.scene in
    let items = c.args.parties.now.items in
    let all = all_merged _ _ _ _ _ _ c.pop.new.self.items c.party.invariant c.party.view_is c.in-Some.ensures.items in
    let looks = looks_of _ scene _ items c.meet_detached-told.result (ap (λ (p : SharedPool). p.scene) c.self.view_is) all
    c.meet_detached-told.ensures.step in
    λ yes. let found = looks.detached yes in (found.0, met_detached_at scene items found.1.0 found.0 found.1.1)

pub returns-clause-none : goal.returns-clause-none
returns-clause-none g c =
    let scene = c.args.self.now.scene in
    let items = c.args.parties.now.items in
    let all = all_merged _ _ _ _ _ _ c.pop.new.self.items c.party.invariant c.party.view_is c.in-Some.ensures.items in
    let looks = looks_of _ scene _ items c.meet_detached-told.result (ap (λ (p : SharedPool). p.scene) c.self.view_is) all
    c.meet_detached-told.ensures.step in
    λ no bucket below. let other = looks.none no bucket below in met_undetached_at scene items other.0 bucket other.1

pub returns-in_default-clause-none : goal.returns-in_default-clause-none
returns-in_default-clause-none g c =
    let some = c.self.invariant.shared.parties in
    let same = ap (λ (p : SharedPool). p.scene.parties) c.self.view_is in
    let none : c.args.parties.now.items ≡ [] = grind (arith, elements) in
    let no_length = ap length none in
    λ _ bucket below. absurd (omega (arith, c.requires.all, some, same, no_length))
