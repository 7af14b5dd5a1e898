-- A party's log determines the call that the party is in, and a step adds only to the log of its
-- party.
use Rattle.bb_memory_bump_machine.proofs.BumpAllowed.{none_allowed}
use Rattle.bb_memory_bump_machine.proofs.BumpSteps.{ExchangeView, ReadView, StepView, exchange_move_view, exchanges, loses, others_stay, read_move_view, reads, refuses_loss, refuses_read, sees, step_view, wins, written}
use Rattle.bb_memory_bump_machine.specs.BumpLogs.{AllAllowed, BumpEntry, BumpLog, HasLog, IsAllowed, LogsAgree, bump_history, call_after, call_in, call_through, entries_by, entry_at, entry_of, history_of, is_by, log_of, with_entry}
use Rattle.bb_memory_bump_machine.specs.BumpMachine.{BumpMove, BumpScene, BumpState, BumpStep, Exchange, Layout, Load, Loaded, OngoingCall, PartyMove, Read, bump_after, bump_step, exchange, exchange_move, left_by, load, moved, opening_state, passed, read, read_move}
use Rattle.bb_memory_lists.proofs.Logs.{logs-push}
use Rattle.bb_memory_lists.proofs.SliceGets.{slice_get-replicate}
use Rattle.bb_memory_traits.specs.Chunk.{Region}
use Rattle.std.proofs.Common.{Bool, List, None, Option, Some, [], ap, arith, false, refl, subst, sym, true, ℕ, ◌++◌, ◌<◌, ◌∙◌, ◌∷◌, ◌≡◌}
use Rattle.std.proofs.lemmas.Bool.{eq-eqb, ne_eqb}
use Rattle.std.proofs.lemmas.List.Elements.{All-push}
use Rattle.std.proofs.lemmas.Option.{get_or_from_slice_get, slice_get_within}
use Rattle.std.specs.List.{All}
use Rattle.std.specs.Prelude.{if◌then◌else◌, slice_get, ◌==◌}

-- THE CALL OF A PARTY

-- a party's own step leaves the party in the call that the entry determines
own_call : (region : Region) (state : BumpState) (step : BumpStep) (move : BumpMove) (party : ℕ) (now : Option OngoingCall) →
    StepView region state step move → is_by party step ≡ true → slice_get state.calls party ≡ Some now →
    slice_get move.state.calls party ≡ Some (call_after now (entry_of step move.outcome))
own_call region state step move party now (reads other layout turn idle asks (sees fit)) by at =
    written state other party None turn.call by idle
own_call region state step move party now (reads other layout turn idle asks (refuses_read fit)) by at =
    written state other party None None by idle
own_call region state step move party now (exchanges other call turn is (loses apart fit)) by at =
    grind (arith, written)
own_call region state step move party now (exchanges other call turn is (wins same)) by at =
    written state other party (Some call) None by is
own_call region state step move party now (exchanges other call turn is (refuses_loss apart fit)) by at =
    written state other party (Some call) None by is
own_call region state step move party now _ by at = at

step_call : (region : Region) (state : BumpState) (step : BumpStep) (party : ℕ) (now : Option OngoingCall) (own : Bool) →
    is_by party step ≡ own → slice_get state.calls party ≡ Some now → slice_get (bump_step region state step).state.calls party
    ≡ Some (if own then call_after now (entry_at region state step) else now)
step_call region state step party now true by at =
    own_call region state step (bump_step region state step) party now (step_view region state step) by at
step_call region state step party now false by at =
    others_stay region state step (bump_step region state step) party (step_view region state step) by ∙ at

call_through-own : (own : Bool) (now : Option OngoingCall) (entry : BumpEntry) (log : BumpLog) →
    call_through (if own then call_after now entry else now) log ≡ call_through now (if own then entry ∷ log else log)
call_through-own true now entry log = refl
call_through-own false now entry log = refl

call_of_log : (region : Region) (state : BumpState) (steps : List BumpStep) (party : ℕ) (now : Option OngoingCall) →
    slice_get state.calls party ≡ Some now → slice_get (bump_after region state steps).calls party
    ≡ Some (call_through now (entries_by party (bump_history region state steps)))
call_of_log region state [] party now at = at
call_of_log region state (step ∷ steps) party now at =
    let own = is_by party step in
    let entry = entry_at region state step in
    let next = (bump_step region state step).state in
    let later : Option OngoingCall = if own then call_after now entry else now in
    call_of_log region next steps party later (step_call region state step party now own refl at)
    ∙ ap Some (call_through-own own now entry (entries_by party (bump_history region next steps)))

pub party_call : (scene : BumpScene) (steps : List BumpStep) (party : ℕ) → party < scene.parties →
    slice_get (left_by scene steps).calls party ≡ Some (call_in (log_of scene steps party))
party_call scene steps party within =
    call_of_log scene.region (opening_state scene) steps party None (slice_get-replicate scene.parties party None within)

-- ONE MORE STEP

history-push : (region : Region) (state : BumpState) (steps : List BumpStep) (step : BumpStep) →
    bump_history region state (steps ++ step ∷ []) ≡
    bump_history region state steps ++ entry_at region (bump_after region state steps) step ∷ []
history-push region state [] step = refl
history-push region state (first ∷ steps) step =
    grind (arith, history-push region (bump_step region state first).state steps step)

after-push : (region : Region) (state : BumpState) (steps : List BumpStep) (step : BumpStep) →
    bump_after region state (steps ++ step ∷ []) ≡ (bump_step region (bump_after region state steps) step).state
after-push region state [] step = refl
after-push region state (first ∷ steps) step = after-push region (bump_step region state first).state steps step

-- IF LOGS AGREE

module _ (scene : BumpScene) (position : ℕ) (logs : List BumpLog) (party : ℕ) (log : BumpLog)
    (agree : LogsAgree scene position logs) (at : HasLog logs party log) where
  -- an allowed step of a party adds its entry to the party's log, and to no other
  agree_on : (step : BumpStep) → ((other : ℕ) → is_by other step ≡ (party == other)) → (move : BumpMove) →
      bump_step scene.region (left_by scene agree.steps) step ≡ move → IsAllowed move.outcome →
      LogsAgree scene move.state.position (with_entry logs party log (entry_of step move.outcome))
  agree_on step by move is allowed =
      let opening = opening_state scene in
      let history = history_of scene agree.steps in
      let entry : BumpEntry = entry_of step move.outcome in
      let longer : history_of scene (agree.steps ++ step ∷ []) ≡ history ++ entry ∷ [] =
      history-push scene.region opening agree.steps step ∙ ap (λ (m : BumpMove). history ++ entry_of step m.outcome ∷ []) is in
      record {
        steps = agree.steps ++ step ∷ [];
        allowed = subst AllAllowed (sym longer)
            (All-push (λ (e : BumpEntry). IsAllowed e.outcome) history entry agree.allowed allowed);
        leaves = ap (λ (left : BumpState). left.position) (after-push scene.region opening agree.steps step)
            ∙ ap (λ (m : BumpMove). m.state.position) is;
        each = λ other found there. ap (entries_by other) longer
            ∙ logs-push (λ p e. is_by p e.step) logs party log history entry at (by party ∙ eq-eqb party party refl)
            (λ o apart. by o ∙ ne_eqb party o apart) agree.each other found there;
      }

  -- the same if the step moves the party by the position that it finds
  turn_agrees : (step : BumpStep) → ((other : ℕ) → is_by other step ≡ (party == other)) → (turn : ℕ → PartyMove) →
      ((found : ℕ) → IsAllowed (turn found).outcome) → bump_step scene.region (left_by scene agree.steps) step ≡
      moved (left_by scene agree.steps) party (turn (left_by scene agree.steps).position) →
      LogsAgree scene (turn position).position (with_entry logs party log (entry_of step (turn position).outcome))
  turn_agrees step by turn allowed is =
      let state = left_by scene agree.steps in
      subst (λ found. LogsAgree scene (turn found).position (with_entry logs party log (entry_of step (turn found).outcome)))
      agree.leaves (agree_on step by (moved state party (turn state.position)) is (allowed state.position))

  agreed_call : (call : Option OngoingCall) → party < scene.parties → call_in log ≡ call →
      slice_get (left_by scene agree.steps).calls party ≡ Some call
  agreed_call call within is = party_call scene agree.steps party within
      ∙ ap (λ (own : BumpLog). Some (call_in own)) (agree.each party log at) ∙ ap Some is

  pub load_agrees : party < scene.parties → call_in log ≡ None →
      LogsAgree scene position (with_entry logs party log (entry_of (Load party) (Loaded position)))
  load_agrees within is =
      let state = left_by scene agree.steps in
      subst (λ (found : ℕ). LogsAgree scene found (with_entry logs party log (entry_of (Load party) (Loaded found)))) agree.leaves
      (agree_on (Load party) (λ other. refl) (record { outcome = Loaded state.position; state = state })
      (ap (load state) (agreed_call None within is)) tt)

-- EACH KIND OF STEP

read_stays : (region : Region) (position : ℕ) (layout : Layout) (turn : PartyMove) → ReadView region position layout turn →
    IsAllowed turn.outcome × (turn.position ≡ position)
read_stays region position layout turn (sees fit) = (tt, refl)
read_stays region position layout turn (refuses_read fit) = (tt, refl)

exchange_allowed : (region : Region) (position : ℕ) (call : OngoingCall) (turn : PartyMove) →
    ExchangeView region position call turn → IsAllowed turn.outcome
exchange_allowed region position call turn (wins same) = tt
exchange_allowed region position call turn (loses apart fit) = tt
exchange_allowed region position call turn (refuses_loss apart fit) = tt

pub read_agrees : (scene : BumpScene) (position : ℕ) (logs : List BumpLog) (party : ℕ) (log : BumpLog) (layout : Layout) →
    LogsAgree scene position logs → HasLog logs party log → party < scene.parties → call_in log ≡ None → 0 < layout.size →
    LogsAgree scene position
    (with_entry logs party log (entry_of (Read party layout) (read_move scene.region position layout).outcome))
read_agrees scene position logs party log layout agree at within is asks =
    let state = left_by scene agree.steps in
    let turn = λ (found : ℕ). read_move scene.region found layout in
    let stays = λ (found : ℕ). read_stays scene.region found layout (turn found) (read_move_view scene.region found layout) in
    let moves = ap (read scene.region state party layout) (agreed_call scene position logs party log agree at None within is)
    ∙ ap (λ (empty : Bool). if empty then passed state else moved state party (turn state.position))
    (ne_eqb layout.size 0 (λ none. omega arith)) in
    subst (λ (left : ℕ). LogsAgree scene left (with_entry logs party log (entry_of (Read party layout) (turn position).outcome)))
    (stays position).1
    (turn_agrees scene position logs party log agree at (Read party layout) (λ other. refl) turn (λ found. (stays found).0) moves)

pub exchange_agrees : (scene : BumpScene) (position : ℕ) (logs : List BumpLog) (party : ℕ) (log : BumpLog) (call : OngoingCall) →
    LogsAgree scene position logs → HasLog logs party log → party < scene.parties → call_in log ≡ Some call →
    LogsAgree scene (exchange_move scene.region position call).position
    (with_entry logs party log (entry_of (Exchange party) (exchange_move scene.region position call).outcome))
exchange_agrees scene position logs party log call agree at within is =
    let turn = λ (found : ℕ). exchange_move scene.region found call in
    turn_agrees scene position logs party log agree at (Exchange party) (λ other. refl) turn
    (λ found. exchange_allowed scene.region found call (turn found) (exchange_move_view scene.region found call))
    (ap (exchange scene.region (left_by scene agree.steps) party)
    (agreed_call scene position logs party log agree at (Some call) within is))

-- AT THE OPENING

-- logs that are all empty agree with the opening
pub opening_agrees : (scene : BumpScene) (logs : List BumpLog) → All (λ log. log ≡ []) logs → LogsAgree scene scene.opening logs
opening_agrees scene logs empty = record {
  steps = [];
  allowed = none_allowed;
  leaves = refl;
  each = λ party log at.
      sym (empty party log (slice_get_within logs party log at)) ∙ get_or_from_slice_get logs party log log at;
}
