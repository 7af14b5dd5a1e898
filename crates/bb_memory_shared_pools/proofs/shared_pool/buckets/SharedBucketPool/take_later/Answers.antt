use Rattle.bb_memory_pool_machine.specs.declared.hint.Hint.{Hint}
use Rattle.bb_memory_shared_pools.proofs.SharedPoolLater.{EndsSearch, goes_on, lost_later, took_later}
use Rattle.bb_memory_shared_pools.proofs.shared_pool.buckets.SharedBucketPool.take_later.Given as given
use Rattle.bb_memory_shared_pools.proofs.shared_pool.buckets.SharedBucketPool.take_later.Goals as goal
use Rattle.bb_memory_shared_pools.specs.SharedPool.{PoolParty, taken_bucket}
use Rattle.bb_memory_shared_pools.specs.SharedPoolNextFit.{BeginsSearch}
use Rattle.bb_memory_shared_pools.specs.SharedPoolRule.{IsPartySeat}
use Rattle.bb_memory_traits.specs.declared.allocator.AllocationError.TheVariants.{OutOfMemory}
use Rattle.std.proofs.Common.{ap, subst, sym, ◌∙◌}
use Rattle.std.specs.Prelude.{Err, Ok}

-- a later probe took a bucket
took : (g : given.Over) (c : goal.After-taken g) (before : PoolParty) → BeginsSearch before c.args.party.now →
    EndsSearch c.args.self.now c.party.inside.number before c.search_on-taken.new.seat.table_id
    c.search_on-taken.new.seat.me c.search_on-taken.new.hint (Ok c.taken.result)
took g c before begun =
    let pool = c.args.self.now in
    let party = c.party.inside in
    let now = c.args.party.now in
    let table = party.seat.table_id in
    let me = party.seat.me in
    let on = goes_on pool table me party.number party.hint now before c.party.invariant c.party.view_is c.requires.party begun in
    took_later pool table me party.number party.hint now before c.party.invariant c.party.view_is c.requires.party begun
    c.search_on-taken.new.seat.table_id c.search_on-taken.new.seat.me c.search_on-taken.new.hint c.in-Some.number
    c.taken.result (c.in-Some.ensures.step.step before.number before.log on) c.in-Some.ensures.moved
    c.search_on-taken.ensures.step.table
    (c.taken.ensures ∙ ap (taken_bucket pool c.in-Some.number) c.bucket_size.ensures.value)

pub invariant_of-party-2 : goal.invariant_of-party-2
invariant_of-party-2 g c = (took g c c.requires.begun.0 c.requires.begun.1).seat

pub returns-clause-answer : goal.returns-clause-answer
returns-clause-answer g c before begun = (took g c before begun).answer

pub returns-clause-serves : goal.returns-clause-serves
returns-clause-serves g c before begun = (took g c before begun).serves

pub returns-clause-party : goal.returns-clause-party
returns-clause-party g c = (took g c c.requires.begun.0 c.requires.begun.1).own

-- each later probe missed
lost : (g : given.Over) (c : goal.In_default g) (before : PoolParty) → BeginsSearch before c.args.party.now →
    EndsSearch c.args.self.now c.party.inside.number before c.search_on-taken.new.seat.table_id
    c.search_on-taken.new.seat.me c.party.inside.hint (Err OutOfMemory)
lost g c before begun =
    let pool = c.args.self.now in
    let party = c.party.inside in
    let now = c.args.party.now in
    let table = party.seat.table_id in
    let me = party.seat.me in
    let on = goes_on pool table me party.number party.hint now before c.party.invariant c.party.view_is c.requires.party begun in
    lost_later pool table me party.number party.hint now before c.party.invariant c.party.view_is c.requires.party begun
    c.search_on-taken.new.seat.table_id c.search_on-taken.new.seat.me
    (c.in_default.ensures.step.step before.number before.log on) c.search_on-taken.ensures.step.table

pub invariant_of-party : goal.invariant_of-party
invariant_of-party g c = subst (λ (h : Hint). IsPartySeat c.party.inside.number h c.search_on-taken.new.seat.me)
    (sym c.in_default.ensures.stays) (lost g c c.requires.begun.0 c.requires.begun.1).seat

pub returns-in_default-clause-answer : goal.returns-in_default-clause-answer
returns-in_default-clause-answer g c before begun = (lost g c before begun).answer

pub returns-in_default-clause-serves : goal.returns-in_default-clause-serves
returns-in_default-clause-serves g c before begun = (lost g c before begun).serves

pub returns-in_default-clause-party : goal.returns-in_default-clause-party
returns-in_default-clause-party g c = (lost g c c.requires.begun.0 c.requires.begun.1).own
