use Rattle.atomic_table.specs.Table.{Me}
use Rattle.bb_memory_pool_machine.specs.PoolMachine.{PoolScene}
use Rattle.bb_memory_seats.specs.Seats.{number_of}
use Rattle.bb_memory_shared_pools.proofs.SharedPoolNextFit.{idle_where, search_goes_on, search_refuses, search_sends}
use Rattle.bb_memory_shared_pools.proofs.shared_pool.buckets.SharedBucketPool.later_sends.Goals as goal
use Rattle.bb_memory_shared_pools.specs.SharedPoolNextFit.{probed}
use Rattle.bb_memory_shared_pools.specs.SharedPoolRule.{IsInSearch, SeatView}
use Rattle.std.proofs.Common.{ap, arith, subst, ℕ, ◌∙◌, ◌≡◌}

pub returns-then-probe_to_send-clause-step : goal.returns-then-probe_to_send-clause-step
returns-then-probe_to_send-clause-step g c =
    let is = c.probed-bucket.ensures.value ∙ ap (λ (n : ℕ). probed n c.args.first c.loop-probe.probe)
    c.number_of_buckets-count.ensures.value in
    record {
      table = c.probe_to_send.ensures.table ∙ c.loop-probe.invariant.table;
      step = λ number log begun. search_sends c.args.self.now.scene number log c.args.first c.loop-probe.seat.me
          c.probe_to_send.new.seat.me c.loop-probe.probe (c.loop-probe.invariant.so_far number log begun) c.probed-bucket.result is
          (rw c.if-probe_to_send.true at (rw c.self.view_is at c.probe_to_send.ensures.step)) (omega arith);
    }

pub loop-probe-preserved : goal.loop-probe-preserved
loop-probe-preserved g c =
    let is = c.probed-bucket.ensures.value ∙ ap (λ (n : ℕ). probed n c.args.first c.loop-probe.probe)
    c.number_of_buckets-count.ensures.value in
    let missed = rw c.if-probe_to_send.false at (rw c.self.view_is at c.probe_to_send.ensures.step) in
    record {
      table = c.probe_to_send.ensures.table ∙ c.loop-probe.invariant.table;
      own = ap (λ (m : Me ℕ SeatView). number_of m.0) missed.ended.seat.is ∙ c.loop-probe.invariant.own;
      idle = idle_where c.args.self.now.scene _ _ c.probe_to_send.new.seat.me missed.ended;
      so_far = λ number log begun. search_goes_on c.args.self.now.scene number log c.args.first c.loop-probe.seat.me
          c.probe_to_send.new.seat.me c.loop-probe.probe (c.loop-probe.invariant.so_far number log begun) c.probed-bucket.result is
          missed;
    }

pub returns-clause-step : goal.returns-clause-step
returns-clause-step g c =
    let scene : PoolScene = c.args.self.now.scene in
    let end : c.loop-probe.probe ≡ scene.geometry.buckets = omega arith in
    record {
      table = c.loop-probe.invariant.table;
      step = λ number log begun. search_refuses scene number log c.args.first c.loop-probe.seat.me
          (subst (λ (n : ℕ). IsInSearch scene number log c.args.first n c.loop-probe.seat.me) end
          (c.loop-probe.invariant.so_far number log begun));
    }
