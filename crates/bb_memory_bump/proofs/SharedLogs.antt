-- A party's log once entries are added to it.
use Rattle.bb_memory_bump.specs.SharedBump.{BumpOutcome, BumpStep}
use Rattle.bb_memory_bump_machine.proofs.BumpBounds.{call_grows, seen_grows}
use Rattle.bb_memory_bump_machine.specs.BumpLogs.{BumpEntry, BumpLog, call_after, call_in, entry_of, greater_of, is_loss, losses_in, position_in, seen_in}
use Rattle.bb_memory_bump_machine.specs.BumpMachine.{BumpScene}
use Rattle.std.proofs.Common.{None, [], ◌++◌, ◌+◌, ◌∷◌, ◌≡◌}
use Rattle.std.proofs.lemmas.List.Sums.{sum_by-cons}
use Rattle.std.specs.Prelude.{if◌then◌else◌}

-- the call of a party whose log has one more entry
pub call_next : (log : BumpLog) (step : BumpStep) (outcome : BumpOutcome) →
    call_in (log ++ entry_of step outcome ∷ []) ≡ call_after (call_in log) (entry_of step outcome)
call_next log step outcome = call_grows None log (entry_of step outcome ∷ [])

-- the position that a party has seen whose log has one more entry
pub seen_next : (scene : BumpScene) (log : BumpLog) (step : BumpStep) (outcome : BumpOutcome) →
    seen_in scene (log ++ entry_of step outcome ∷ []) ≡ greater_of (seen_in scene log) (position_in scene.region outcome)
seen_next scene log step outcome = seen_grows scene.region scene.opening log (entry_of step outcome ∷ [])

pub losses_in-cons : (first : BumpEntry) (log : BumpLog) →
    losses_in (first ∷ log) ≡ (if is_loss first.outcome then 1 else 0) + losses_in log
losses_in-cons first log = sum_by-cons (λ (e : BumpEntry). if is_loss e.outcome then 1 else 0) first log
