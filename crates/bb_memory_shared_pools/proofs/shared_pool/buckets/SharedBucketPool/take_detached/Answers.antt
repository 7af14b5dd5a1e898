use Rattle.bb_memory_seats.specs.Seats.{number_of, view_log}
use Rattle.bb_memory_shared_pools.proofs.SharedPoolSends.{HasSent, HasSentNone, has_sent, has_sent_none}
use Rattle.bb_memory_shared_pools.proofs.shared_pool.buckets.SharedBucketPool.take_detached.Given as given
use Rattle.bb_memory_shared_pools.proofs.shared_pool.buckets.SharedBucketPool.take_detached.Goals as goal
use Rattle.std.proofs.Common.{◌∙◌}

-- the first probe took the bucket at the hint
first : (g : given.Over) (c : goal.After-follow_first g) → HasSent c.args.party.now c.party.inside.number c.party.inside.hint.bucket
    c.send_first.new.seat.table_id c.send_first.new.seat.me c.follow_first.new.self
first g c =
    let party = c.party.inside in
    let sent = c.if-send_first.ensures.step in
    has_sent party.seat.table_id c.send_first.new.seat.table_id party.seat.me c.send_first.new.seat.me party.number party.hint
    c.party.invariant sent.table c.args.self.now c.args.party.now c.party.view_is c.requires.party c.follow_first.new.self
    party.hint.bucket c.follow_first.ensures sent.step

pub invariant_of-party : goal.invariant_of-party
invariant_of-party g c = (first g c).seat

pub returns-then-send_first-clause-sent : goal.returns-then-send_first-clause-sent
returns-then-send_first-clause-sent g c = (first g c).takes

-- a later probe took a bucket
later : (g : given.Over) (c : goal.After-follow_taking g) → HasSent c.args.party.now c.party.inside.number c.in-Some.number
    c.later_sends-later.new.seat.table_id c.later_sends-later.new.seat.me c.follow_taking.new.self
later g c =
    let party = c.party.inside in
    let me = party.seat.me in
    let new = c.later_sends-later.new.seat in
    let sent = c.in-Some.ensures.step.step (number_of me.0) (view_log me.0) c.if-send_first.ensures.step.step in
    has_sent party.seat.table_id new.table_id me new.me party.number party.hint c.party.invariant
    (c.later_sends-later.ensures.step.table ∙ c.send_first.ensures.step.table) c.args.self.now c.args.party.now c.party.view_is c.requires.party
    c.follow_taking.new.self c.in-Some.number c.follow_taking.ensures sent

pub invariant_of-party-2 : goal.invariant_of-party-2
invariant_of-party-2 g c = (later g c).seat

pub returns-clause-sent : goal.returns-clause-sent
returns-clause-sent g c = (later g c).takes

-- each probe missed
none : (g : given.Over) (c : goal.In_default g) → HasSentNone c.args.party.now c.party.inside.number
    c.later_sends-later.new.seat.table_id c.later_sends-later.new.seat.me c.party.inside.hint
none g c =
    let party = c.party.inside in
    let me = party.seat.me in
    let new = c.later_sends-later.new.seat in
    let lost = c.in_default.ensures.step.step (number_of me.0) (view_log me.0) c.if-send_first.ensures.step.step in
    has_sent_none party.seat.table_id new.table_id me new.me party.number party.hint c.party.invariant
    (c.later_sends-later.ensures.step.table ∙ c.send_first.ensures.step.table) c.args.self.now c.args.party.now c.party.view_is c.requires.party lost

pub invariant_of-party-in_default : goal.invariant_of-party-in_default
invariant_of-party-in_default g c = (none g c).seat

pub returns-in_default-clause-refused : goal.returns-in_default-clause-refused
returns-in_default-clause-refused g c = (none g c).misses
