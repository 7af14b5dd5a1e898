use Rattle.bb_memory_seats.specs.Seats.{number_of, view_log}
use Rattle.bb_memory_shared_pools.proofs.SharedPoolPasses.{IsPassing, goes_on, refuses, takes}
use Rattle.bb_memory_shared_pools.proofs.shared_pool.buckets.SharedBucketPool.pass.Goals as goal
use Rattle.std.proofs.Common.{arith, subst, ℕ, ◌∙◌, ◌≡◌}
use Rattle.std.proofs.lemmas.Grind.{common_steps}

pub returns-then-try_flag-clause-step : goal.returns-then-try_flag-clause-step
returns-then-try_flag-clause-step g c =
    let me = c.args.seat.now.me in record {
      table = c.try_flag.ensures.table ∙ c.loop-bucket.invariant.table;
      step = takes c.args.self.now.scene (number_of me.0) (view_log me.0) c.loop-bucket.seat.me c.try_flag.new.seat.me
          c.loop-bucket.bucket c.loop-bucket.invariant.passing
          (rw c.if-try_flag.true at (rw c.self.view_is at c.try_flag.ensures.step)) (omega arith);
    }

pub loop-bucket-preserved : goal.loop-bucket-preserved
loop-bucket-preserved g c =
    let me = c.args.seat.now.me in
    record {
      table = c.try_flag.ensures.table ∙ c.loop-bucket.invariant.table;
      passing = goes_on c.args.self.now.scene (number_of me.0) (view_log me.0) c.loop-bucket.seat.me
          c.try_flag.new.seat.me c.loop-bucket.bucket c.loop-bucket.invariant.passing
          (rw c.if-try_flag.false at (rw c.self.view_is at c.try_flag.ensures.step));
    }

pub returns-clause-step : goal.returns-clause-step
returns-clause-step g c =
    let scene = c.args.self.now.scene in
    let me = c.args.seat.now.me in
    let all : c.loop-bucket.bucket ≡ scene.geometry.buckets = omega arith in record {
      table = c.loop-bucket.invariant.table;
      step = refuses scene (number_of me.0) (view_log me.0) c.loop-bucket.seat.me c.requires.seat.seat.idle
          (subst (λ (n : ℕ). IsPassing scene (number_of me.0) (view_log me.0) n c.loop-bucket.seat.me) all
          c.loop-bucket.invariant.passing);
    }

pub try_flag-requires-clause-next : goal.try_flag-requires-clause-next
try_flag-requires-clause-next g c = grind (arith, common_steps)
