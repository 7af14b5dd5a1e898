-- How a pass goes on: from its first exchange to the step that ends it.
use Rattle.atomic_table.specs.Table.{Me}
use Rattle.bb_memory_pool_machine.specs.PoolLogs.{IsHeldAfter, PoolEntry, PoolLog, entry_of, loss_at, pass_in}
use Rattle.bb_memory_pool_machine.specs.PoolMachine.{PoolScene}
use Rattle.bb_memory_pool_machine.specs.declared.steps.pool.PoolOutcome.TheVariants.{Takes}
use Rattle.bb_memory_pool_machine.specs.declared.steps.pool.PoolStep.TheVariants.{Try}
use Rattle.bb_memory_seats.specs.Seats.{number_of, view_log}
use Rattle.bb_memory_shared_pools.proofs.SharedPoolRequests.{HasAsked}
use Rattle.bb_memory_shared_pools.proofs.SharedPoolTries.{held-taking, idle_after_refusal, idle_after_taking, same_held}
use Rattle.bb_memory_shared_pools.specs.SharedPool.{AreAllHeldAfter, losses, refused_pass, taking_pass}
use Rattle.bb_memory_shared_pools.specs.SharedPoolRule.{AfterPassWin, AfterRefusal, AfterTryLoss, AfterTryWin, IsSeatOf, SeatView}
use Rattle.std.proofs.Common.{None, Some, [], add-one, ap, append_assoc, subst, sym, ℕ, ◌++◌, ◌+◌, ◌<◌, ◌∙◌, ◌∷◌, ◌≡◌}
use borrow.Author.Count.{below_more}

-- a pass in progress: since it began, the seat's party has lost at the buckets below this one
pub record IsPassing (scene : PoolScene) (number : ℕ) (log : PoolLog) (bucket : ℕ) (me : Me ℕ SeatView) : Type 0 where
  pub seat : IsSeatOf scene number (log ++ losses scene.geometry.buckets number bucket) me
  pub held : scene.parties ≡ 1 → AreAllHeldAfter log bucket

-- an entry after more of them
seat_after : (scene : PoolScene) (number : ℕ) (log more : PoolLog) (entry : PoolEntry) (new : Me ℕ SeatView) →
    IsSeatOf scene number ((log ++ more) ++ entry ∷ []) new → IsSeatOf scene number (log ++ (more ++ entry ∷ [])) new
seat_after scene number log more entry new seat =
    subst (λ (l : PoolLog). IsSeatOf scene number l new) (append_assoc log more (entry ∷ [])) seat

module _ (scene : PoolScene) (number : ℕ) (log : PoolLog) where
  module _ (me new : Me ℕ SeatView) (bucket : ℕ) (passing : IsPassing scene number log bucket me) where
    -- one more loss. If the party is the only one, the bucket is held after its log, as all before
    pub goes_on : AfterTryLoss scene (number_of me.0) (view_log me.0) bucket new → IsPassing scene number log (bucket + 1) new
    goes_on tells =
        let buckets : ℕ = scene.geometry.buckets in
        let Told : Me ℕ SeatView → Type 0 = λ m. AfterTryLoss scene (number_of m.0) (view_log m.0) bucket new in
        let here = subst Told passing.seat.is tells in
        let more : PoolLog = losses buckets number bucket in
        record {
          seat = subst (λ (l : PoolLog). IsSeatOf scene number (log ++ l) new) (sym (ap (losses buckets number) (add-one bucket)))
              (seat_after scene number log more (entry_of (Try number) (loss_at buckets bucket)) new here.seat);
          held = λ one. below_more (λ (other : ℕ). IsHeldAfter log other) bucket (passing.held one)
              (sym (same_held buckets number bucket bucket log) ∙ here.held one);
        }

    pub takes : AfterTryWin scene (number_of me.0) (view_log me.0) bucket new → bucket < scene.geometry.buckets →
        AfterPassWin scene number log new bucket
    takes tells below =
        let buckets : ℕ = scene.geometry.buckets in
        let Told : Me ℕ SeatView → Type 0 = λ m. AfterTryWin scene (number_of m.0) (view_log m.0) bucket new in
        let here = subst Told passing.seat.is tells in
        let more : PoolLog = losses buckets number bucket in
        record {
          ended = record {
            seat = seat_after scene number log more (entry_of (Try number) (Takes bucket)) new here.seat;
            idle = idle_after_taking buckets number bucket log;
          };
          below = below;
          free = λ held. here.free (same_held buckets number bucket bucket log ∙ held);
        }

  pub refuses : (me : Me ℕ SeatView) → pass_in log ≡ None → IsPassing scene number log scene.geometry.buckets me →
      AfterRefusal scene number log (refused_pass scene.geometry.buckets number) me
  refuses me idle passing = record {
    ended = record { seat = passing.seat; idle = idle_after_refusal scene.geometry.buckets number log idle };
    held = passing.held;
  }

-- a pass that has ended
pub pass_took : (scene : PoolScene) (number : ℕ) (log : PoolLog) (new : Me ℕ SeatView) (bucket : ℕ) →
    AfterPassWin scene number log new bucket →
    HasAsked scene number log (taking_pass scene.geometry.buckets number bucket) (Some bucket) new
pass_took scene number log new bucket took = record {
  ended = took.ended;
  leaves = λ other. held-taking scene.geometry.buckets number bucket other log;
  found = (took.below, took.free);
}

pub pass_lost : (scene : PoolScene) (number : ℕ) (log : PoolLog) (new : Me ℕ SeatView) →
    AfterRefusal scene number log (refused_pass scene.geometry.buckets number) new →
    HasAsked scene number log (refused_pass scene.geometry.buckets number) None new
pass_lost scene number log new lost = record {
  ended = lost.ended;
  leaves = λ other. same_held scene.geometry.buckets number scene.geometry.buckets other log;
  found = lost.held;
}
