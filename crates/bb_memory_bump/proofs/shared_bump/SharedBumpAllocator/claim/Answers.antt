use Rattle.bb_memory_bump.proofs.SharedBumpRequests.{begins, goes_on, raises, refused_at_once, refused_later, wins}
use Rattle.bb_memory_bump.proofs.shared_bump.SharedBumpAllocator.claim.Goals as goal
use Rattle.bb_memory_bump.specs.SharedBumpRule.{met_by}
use Rattle.bb_memory_bump_machine.specs.BumpMachine.{fits}
use Rattle.bb_memory_seats.specs.Seats.{number_of, view_log}
use Rattle.bb_memory_traits.specs.Chunk.{Region}
use Rattle.std.proofs.Common.{ap, arith, subst, ◌∙◌, ◌≤◌}

pub returns-in-None-clause-call : goal.returns-in-None-clause-call
returns-in-None-clause-call g c = grind (arith, refused_at_once)

pub loop-seen-init : goal.loop-seen-init
loop-seen-init g c = grind (arith, begins)

pub returns-then-found-seen-clause-call : goal.returns-then-found-seen-clause-call
returns-then-found-seen-clause-call g c =
    let me = c.args.seat.now.me in
    let before = c.loop-seen.invariant in record {
      table = c.exchange-found.ensures.table ∙ before.table;
      step = wins c.args.self.now.scene (number_of me.0) (view_log me.0) (met_by me.0) c.args.layout c.loop-seen.seen
          c.exchange-found.result c.loop-seen.seat.me c.exchange-found.new.seat.me before.trying
          (rw c.self.view_is at c.exchange-found.ensures.step)
          c.loop-seen.chunk c.if-found-seen.true before.placed before.inside.below;
    }

pub returns-in-None-place-clause-call : goal.returns-in-None-place-clause-call
returns-in-None-place-clause-call g c =
    let me = c.args.seat.now.me in
    let before = c.loop-seen.invariant in
    let same = rw c.self.view_is at c.self.invariant.region in
    record {
      table = c.exchange-found.ensures.table ∙ before.table;
      step = refused_later c.args.self.now.scene (number_of me.0) (view_log me.0) (met_by me.0) c.args.layout c.loop-seen.seen
          c.exchange-found.result c.loop-seen.seat.me c.exchange-found.new.seat.me before.trying
          (rw c.self.view_is at c.exchange-found.ensures.step) c.if-found-seen.false
          (ap (λ (r : Region). fits r c.exchange-found.result c.args.layout) same ∙ c.in-None-place.ensures.fits);
    }

pub loop-seen-preserved : goal.loop-seen-preserved
loop-seen-preserved g c =
    let me = c.args.seat.now.me in
    let before = c.loop-seen.invariant in
    let next = (rw (← c.self.invariant.region, c.self.view_is) at c.in-Some-place.ensures).fits in
    record {
      table = c.exchange-found.ensures.table ∙ before.table;
      trying =
          goes_on c.args.self.now.scene (number_of me.0) (view_log me.0) (met_by me.0) c.args.layout c.loop-seen.seen
          c.exchange-found.result
          c.loop-seen.seat.me c.exchange-found.new.seat.me before.trying (rw c.self.view_is at c.exchange-found.ensures.step)
          c.if-found-seen.false next.fitting;
      placed = next.placed;
      inside = next.inside;
      aligned = next.aligned;
    }

pub place-requires-in-loop-seen : goal.place-requires-in-loop-seen
place-requires-in-loop-seen g c =
    let me = c.args.seat.now.me in
    let same = rw c.self.view_is at c.self.invariant.region in
    let risen = raises c.args.self.now.scene (number_of me.0) (view_log me.0) (met_by me.0) c.args.layout c.loop-seen.seen
    c.exchange-found.result
    c.loop-seen.seat.me c.exchange-found.new.seat.me c.loop-seen.invariant.trying
    (rw c.self.view_is at c.exchange-found.ensures.step) in
    record {
      region = c.self.invariant.is_region;
      position = subst (λ (r : Region). c.exchange-found.result ≤ r.size) same risen.1;
    }

pub loop-seen-smaller : goal.loop-seen-smaller
loop-seen-smaller g c =
    let me = c.args.seat.now.me in
    let up = raises c.args.self.now.scene (number_of me.0) (view_log me.0) (met_by me.0) c.args.layout c.loop-seen.seen
    c.exchange-found.result
    c.loop-seen.seat.me c.exchange-found.new.seat.me c.loop-seen.invariant.trying
    (rw c.self.view_is at c.exchange-found.ensures.step) in
    let apart = c.if-found-seen.false in
    omega (arith, up, apart)

pub exchange-found-requires-clause-seat : goal.exchange-found-requires-clause-seat
exchange-found-requires-clause-seat g c = grind arith

pub exchange-found-requires-clause-behind : goal.exchange-found-requires-clause-behind
exchange-found-requires-clause-behind g c = grind arith
