-- A party's log determines where its pass is, and a step of the party adds only to that log.
use Rattle.bb_memory_lists.proofs.Logs.{logs-push}
use Rattle.bb_memory_lists.proofs.SliceGets.{slice_get-replicate, slice_get-set_apart, slice_get-set_at}
use Rattle.bb_memory_pool_machine.proofs.PoolHolders.{either_way, steps_fold}
use Rattle.bb_memory_pool_machine.proofs.PoolSteps.{IsNext, StepKind, is_refused, kind_of, loses, next_of_idle, takes, takes_at, test_apart, test_same}
use Rattle.bb_memory_pool_machine.specs.PoolLogs.{HasLog, IsAllowed, LogsAgree, PoolEntry, PoolLog, entries_by, entry_of, history_of, is_by, log_of, pass_after, pass_in, pool_history, with_entry}
use Rattle.bb_memory_pool_machine.specs.PoolMachine.{Flag, PoolMove, PoolOutcome, PoolScene, PoolState, PoolStep, left_by, opening_state, pool_after, pool_step}
use Rattle.std.proofs.Common.{List, None, Option, Some, [], ap, arith, refl, subst, sym, ℕ, ◌++◌, ◌+◌, ◌<◌, ◌∙◌, ◌∷◌, ◌≡◌}
use Rattle.std.proofs.lemmas.List.Elements.{All-push}
use Rattle.std.specs.Prelude.{All, if◌then◌else◌, slice_get, slice_set, ◌==◌}

-- WHERE A PASS IS

pass-set : (state : PoolState) (other party bucket : ℕ) (before after : Option ℕ) → IsNext state other bucket →
    slice_get state.calls party ≡ Some before →
    slice_get (slice_set state.calls other after) party ≡ Some (if other == party then after else before)
pass-set state other party bucket before after next there =
    grind (arith, slice_get-set_at, test_same, slice_get-set_apart, test_apart)

-- where a party's pass is after any step
abbrev pass_by : ℕ → Option ℕ → PoolStep → PoolOutcome → Option ℕ
pass_by party pass step outcome = if is_by party step then pass_after pass outcome else pass

-- the machine has the party's pass at the same place
step_pass : (state : PoolState) (step : PoolStep) (move : PoolMove) (party : ℕ) (pass : Option ℕ) →
    StepKind state step move → slice_get state.calls party ≡ Some pass →
    slice_get move.state.calls party ≡ Some (pass_by party pass step move.outcome)
step_pass state step move party pass (takes other bucket next free) there = pass-set state other party bucket pass None next there
step_pass state step move party pass (loses other bucket next taken more) there =
    pass-set state other party bucket pass (Some (bucket + 1)) next there
step_pass state step move party pass (is_refused other bucket next taken last) there =
    pass-set state other party bucket pass None next there
step_pass state step move party pass (takes_at other bucket idle free) there =
    pass-set state other party 0 pass None (next_of_idle state other idle) there
step_pass state step move party pass _ there = there ∙ ap Some (sym (either_way (is_by party step) pass))

-- the log of a party that was made determines where its pass is
pub log_pass : (scene : PoolScene) (steps : List PoolStep) (party : ℕ) → party < scene.parties →
    slice_get (left_by scene steps).calls party ≡ Some (pass_in (log_of scene steps party))
log_pass scene steps party made =
    steps_fold (λ state pass. slice_get state.calls party ≡ Some pass) (λ pass entry. pass_after pass entry.outcome) party
    (λ state step pass is. step_pass state step (pool_step state step) party pass (kind_of state step) is)
    (opening_state scene) steps None (slice_get-replicate scene.parties party None made)

-- ONE MORE STEP

history-push : (state : PoolState) (steps : List PoolStep) (step : PoolStep) → pool_history state (steps ++ step ∷ []) ≡
    pool_history state steps ++ entry_of step (pool_step (pool_after state steps) step).outcome ∷ []
history-push state [] step = refl
history-push state (first ∷ steps) step =
    let move : PoolMove = pool_step state first in
    ap (λ (history : PoolLog). entry_of first move.outcome ∷ history) (history-push move.state steps step)

after-push : (state : PoolState) (steps : List PoolStep) (step : PoolStep) →
    pool_after state (steps ++ step ∷ []) ≡ (pool_step (pool_after state steps) step).state
after-push state [] step = refl
after-push state (first ∷ steps) step = after-push (pool_step state first).state steps step

-- the step of a party that makes this move leaves flags and logs that agree again
pub agree_on : (scene : PoolScene) (flags : List Flag) (logs : List PoolLog) (party : ℕ) (log : PoolLog)
    (agree : LogsAgree scene flags logs) → HasLog logs party log → (step : PoolStep) →
    ((other : ℕ) → is_by other step ≡ (party == other)) →
    (move : PoolMove) → pool_step (left_by scene agree.steps) step ≡ move → IsAllowed move.outcome →
    (new : List Flag) → move.state.flags ≡ new →
    LogsAgree scene new (with_entry logs party log (entry_of step move.outcome))
agree_on scene flags logs party log agree at step by move is allowed new leaves =
    let opening : PoolState = opening_state scene in
    let history : PoolLog = history_of scene agree.steps in
    let entry : PoolEntry = entry_of step move.outcome in
    let longer : history_of scene (agree.steps ++ step ∷ []) ≡ history ++ entry ∷ [] =
    history-push opening agree.steps step ∙ ap (λ (m : PoolMove). history ++ entry_of step m.outcome ∷ []) is in
    let Allowed : PoolEntry → Type 0 = λ e. IsAllowed e.outcome in
    record {
      steps = agree.steps ++ step ∷ [];
      allowed = subst (All Allowed) (sym longer) (All-push Allowed history entry agree.allowed allowed);
      leaves = ap (λ (s : PoolState). s.flags) (after-push opening agree.steps step) ∙ ap (λ (m : PoolMove). m.state.flags) is
          ∙ leaves;
      each = λ other found there. ap (entries_by other) longer
          ∙ logs-push (λ p e. is_by p e.step) logs party log history entry at (by party ∙ test_same party party refl)
          (λ o apart. by o ∙ test_apart party o apart) agree.each other found there;
    }
