use Rattle.atomic_table.specs.Table.{Me}
use Rattle.bb_memory_seats.specs.Seats.{standing_for}
use Rattle.bb_memory_shared_pools.proofs.shared_pool.flags.Flags.have_detached.Goals as goal
use Rattle.bb_memory_shared_pools.specs.SharedPoolRule.{FoundDetached, FoundOther, NumberedLog, SeatView}
use Rattle.bb_memory_traits.specs.PoolObject.{PoolGeometry}
use Rattle.std.proofs.Common.{List, [], ap, arith, inl, inr, subst, sym, ℕ, ◌∙◌, ◌≡◌}
use Rattle.std.proofs.lemmas.Bool.{cases_lt}

pub is_detached_when_met-requires-clause-seat : goal.is_detached_when_met-requires-clause-seat
is_detached_when_met-requires-clause-seat c =
    let same = c.loop-bucket.invariant in
    record {
      table = same.table ∙ c.requires.table;
      seat = subst (λ (m : Me ℕ SeatView). m ≡ (standing_for c.args.self.now.scene m.0.parties, [])) (sym same.seat)
          c.requires.seat;
    }

pub returns-then-is_detached_when_met-clause-table : goal.returns-then-is_detached_when_met-clause-table
returns-then-is_detached_when_met-clause-table c = c.is_detached_when_met.ensures.table ∙ c.loop-bucket.invariant.table

pub returns-then-is_detached_when_met-clause-seat : goal.returns-then-is_detached_when_met-clause-seat
returns-then-is_detached_when_met-clause-seat c = c.is_detached_when_met.ensures.seat ∙ c.loop-bucket.invariant.seat

pub returns-then-is_detached_when_met-clause-step : goal.returns-then-is_detached_when_met-clause-step
returns-then-is_detached_when_met-clause-step c =
    let same = ap (λ (m : Me ℕ SeatView). m.0.parties) c.loop-bucket.invariant.seat in
    record {
      detached = λ _. (
        c.loop-bucket.bucket,
        subst (λ (parties : List NumberedLog). FoundDetached c.args.self.now.scene parties c.loop-bucket.bucket) same
            (c.is_detached_when_met.ensures.detached c.if-is_detached_when_met.true),
      );
      none = λ wrong. absurd (cc);
    }

pub loop-bucket-preserved : goal.loop-bucket-preserved
loop-bucket-preserved c =
    let scene = c.args.self.now.scene in
    let before = c.loop-bucket.invariant in
    let same = ap (λ (m : Me ℕ SeatView). m.0.parties) before.seat in
    let here = subst (λ (parties : List NumberedLog). FoundOther scene parties c.loop-bucket.bucket) same
    (c.is_detached_when_met.ensures.other c.if-is_detached_when_met.false) in
    record {
      table = c.is_detached_when_met.ensures.table ∙ before.table;
      seat = c.is_detached_when_met.ensures.seat ∙ before.seat;
      other = λ bucket below. elim (cases_lt bucket c.loop-bucket.bucket) [
        | inl earlier ↦ before.other bucket earlier
        | inr past ↦
            let is : c.loop-bucket.bucket ≡ bucket = omega (arith, below, past) in
            subst (λ (b : ℕ). FoundOther scene c.args.seat.now.me.0.parties b) is here
      ];
    }

pub returns-clause-table : goal.returns-clause-table
returns-clause-table c = c.loop-bucket.invariant.table

pub returns-clause-seat : goal.returns-clause-seat
returns-clause-seat c = c.loop-bucket.invariant.seat

pub returns-clause-step : goal.returns-clause-step
returns-clause-step c =
    let buckets = c.count-bucket-end.ensures.value ∙ ap (λ (g : PoolGeometry). g.buckets) c.geometry.ensures.value in
    record {
      detached = λ wrong. absurd (cc);
      none = λ _ bucket below. c.loop-bucket.invariant.other bucket (omega (arith, below, buckets, c.loop-bucket-test.false));
    }
