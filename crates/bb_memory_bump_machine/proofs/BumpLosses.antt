-- How often a party loses while no clear comes.
use Rattle.bb_memory_bump_machine.proofs.BumpRuns.{bump_after-append, chunk_at-above}
use Rattle.bb_memory_bump_machine.proofs.BumpSteps.{ExchangeView, StepView, clears, each_call-set, exchanges, loads, loses, one_there, others_stay, passes, reads, refuses_loss, refuses_read, sees, step_view, wins, written}
use Rattle.bb_memory_bump_machine.proofs.BumpStretches.{IsClear, not_clear, position_in_size, stretch_rises}
use Rattle.bb_memory_bump_machine.specs.BumpLogs.{BumpEntry, BumpLog, HasNoClear, IsLossAt, bump_history, calls_begun_in, entries_by, is_beginning, is_by, is_loss, losses_in, outcome_after, stretch_after}
use Rattle.bb_memory_bump_machine.specs.BumpMachine.{BumpMove, BumpOutcome, BumpScene, BumpState, BumpStep, Exchange, IsIdle, IsInCall, OngoingCall, PartyMove, bump_after, bump_step, left_by, moved, opening_state}
use Rattle.bb_memory_lists.proofs.SliceGets.{slice_get-set_same}
use Rattle.bb_memory_traits.specs.Chunk.{Region}
use Rattle.std.proofs.Common.{Bool, List, None, Some, [], ap, arith, false, refl, subst, sym, true, ℕ, ◌++◌, ◌+◌, ◌<◌, ◌∙◌, ◌∷◌, ◌≡◌, ◌≤◌}
use Rattle.std.proofs.lemmas.Bool.{eqb-true}
use Rattle.std.proofs.lemmas.List.Sums.{sum_by-cons}
use Rattle.std.proofs.lemmas.Option.{same_Some}
use Rattle.std.specs.Prelude.{count_by, if◌then◌else◌}

-- WHAT A CALL HAS SEEN

-- a party's call, if it is in one, has seen at most the position
abbrev pub SeesNoMore : BumpState → ℕ → Type 0
SeesNoMore state party = (call : OngoingCall) → IsInCall state party call → call.seen ≤ state.position

step_sees : (region : Region) (state : BumpState) (step : BumpStep) (move : BumpMove) (party : ℕ) →
    StepView region state step move → ¬ IsClear step → SeesNoMore state party → SeesNoMore move.state party
step_sees region state step move party (reads other layout turn idle asks (sees fit)) not below =
    each_call-set (λ call. call.seen ≤ state.position) state.calls other party turn.call below (omega arith)
step_sees region state step move party (reads other layout turn idle asks (refuses_read fit)) not below =
    each_call-set (λ call. call.seen ≤ state.position) state.calls other party None below tt
step_sees region state step move party (exchanges other old turn at (wins same)) not below =
    each_call-set (λ call. call.seen ≤ turn.position) state.calls other party None
    (λ call is. omega (arith, below call is, chunk_at-above region state.position old.layout)) tt
step_sees region state step move party (exchanges other old turn at (loses apart fit)) not below =
    each_call-set (λ call. call.seen ≤ state.position) state.calls other party turn.call below (omega arith)
step_sees region state step move party (exchanges other old turn at (refuses_loss apart fit)) not below =
    each_call-set (λ call. call.seen ≤ state.position) state.calls other party None below tt
step_sees region state step move party clears not below = absurd (not tt)
step_sees region state step move party _ not below = below

pub stretch_sees : (region : Region) (state : BumpState) (steps : List BumpStep) (party : ℕ) →
    HasNoClear steps → SeesNoMore state party → SeesNoMore (bump_after region state steps) party
stretch_sees region state [] party none below = below
stretch_sees region state (step ∷ steps) party none below =
    let parts = not_clear step steps none in
    stretch_sees region (bump_step region state step).state steps party parts.1
    (step_sees region state step (bump_step region state step) party (step_view region state step) parts.0 below)

pub idle_sees : (state : BumpState) (party : ℕ) → IsIdle state party → SeesNoMore state party
idle_sees state party idle = λ call is. let none = same_Some None (Some call) (sym idle ∙ is) in absurd (cc)

-- ONE STEP

-- the effect of a step that isn't a clear on a party in a call, with the exchanges that the step
-- loses
data CallTurn (next : BumpState) (party : ℕ) (call : OngoingCall) (lost : ℕ) : Type 0 where
  goes_on : (later : OngoingCall) → IsInCall next party later → lost + call.seen ≤ later.seen → CallTurn next party call lost
  ends : IsIdle next party → lost + call.seen ≤ next.position → CallTurn next party call lost

-- the effect of such a step on an idle party, with the calls that the step begins
data IdleTurn (next : BumpState) (party : ℕ) (lost begun : ℕ) : Type 0 where
  stays : IsIdle next party → lost ≡ 0 → IdleTurn next party lost begun
  begins : (call : OngoingCall) → IsInCall next party call → lost ≡ 0 → begun ≡ 1 → IdleTurn next party lost begun

-- the summand of an entry in a count over a log
abbrev weight : Bool → Bool → ℕ
weight own counted = if own then (if counted then 1 else 0) else 0

exchange_turn : (region : Region) (state : BumpState) (party : ℕ) (call : OngoingCall) (turn : PartyMove) →
    IsInCall state party call → call.seen ≤ state.position → ExchangeView region state.position call turn →
    CallTurn (moved state party turn).state party call (weight true (is_loss turn.outcome))
exchange_turn region state party call turn is below (wins same) = grind (arith, slice_get-set_same, chunk_at-above)
exchange_turn region state party call turn is below (loses apart fit) =
    goes_on (record { layout = call.layout; seen = state.position })
    (slice_get-set_same state.calls party turn.call (Some call) is) (grind (arith, apart))
exchange_turn region state party call turn is below (refuses_loss apart fit) =
    ends (slice_get-set_same state.calls party None (Some call) is) (grind (arith, apart))

own_call_turn : (region : Region) (state : BumpState) (step : BumpStep) (move : BumpMove) (party : ℕ) (call : OngoingCall) →
    StepView region state step move →
    ¬ IsClear step → is_by party step ≡ true → IsInCall state party call → call.seen ≤ state.position →
    CallTurn move.state party call (weight true (is_loss move.outcome))
own_call_turn region state step move party call (exchanges other old turn at view) not by is below =
    let own = same_Some old call (one_there state other party (Some old) (Some call) by at is) in
    subst (λ p. CallTurn (moved state p turn).state party call (weight true (is_loss turn.outcome)))
    (sym (eqb-true other party by))
    (exchange_turn region state party call turn is below (subst (λ c. ExchangeView region state.position c turn) own view))
own_call_turn region state step move party call clears not by is below = absurd (not tt)
own_call_turn region state step move party call (passes other) not by is below = goes_on call is (omega arith)
own_call_turn region state step move party call (reads other layout turn idle asks view) not by is below =
    absurd (let none = one_there state other party None (Some call) by idle is in cc)
own_call_turn region state step move party call (loads other idle) not by is below =
    absurd (let none = one_there state other party None (Some call) by idle is in cc)

call_turn : (region : Region) (state : BumpState) (step : BumpStep) (party : ℕ) (call : OngoingCall) (own : Bool) →
    is_by party step ≡ own → ¬ IsClear step → IsInCall state party call → call.seen ≤ state.position →
    CallTurn (bump_step region state step).state party call (weight own (is_loss (bump_step region state step).outcome))
call_turn region state step party call true by not is below =
    own_call_turn region state step (bump_step region state step) party call (step_view region state step) not by is below
call_turn region state step party call false by not is below =
    goes_on call (others_stay region state step (bump_step region state step) party (step_view region state step) by ∙ is)
    (omega arith)

own_idle_turn : (region : Region) (state : BumpState) (step : BumpStep) (move : BumpMove) (party : ℕ) →
    StepView region state step move → ¬ IsClear step → is_by party step ≡ true → IsIdle state party →
    IdleTurn move.state party (weight true (is_loss move.outcome)) (weight true (is_beginning move.outcome))
own_idle_turn region state step move party (reads other layout turn idle asks (sees fit)) not by now =
    begins (record { layout = layout; seen = state.position }) (written state other party None turn.call by idle) refl refl
own_idle_turn region state step move party (reads other layout turn idle asks (refuses_read fit)) not by now =
    stays (written state other party None None by idle) refl
own_idle_turn region state step move party (exchanges other call turn at view) not by now =
    absurd (let none = one_there state other party (Some call) None by at now in cc)
own_idle_turn region state step move party clears not by now = absurd (not tt)
own_idle_turn region state step move party _ not by now = stays now refl

idle_turn : (region : Region) (state : BumpState) (step : BumpStep) (party : ℕ) (own : Bool) → is_by party step ≡ own →
    ¬ IsClear step → IsIdle state party →
    IdleTurn (bump_step region state step).state party (weight own (is_loss (bump_step region state step).outcome))
    (weight own (is_beginning (bump_step region state step).outcome))
idle_turn region state step party true by not now =
    own_idle_turn region state step (bump_step region state step) party (step_view region state step) not by now
idle_turn region state step party false by not now =
    stays (others_stay region state step (bump_step region state step) party (step_view region state step) by ∙ now) refl

-- OVER A STRETCH

count_own : (own : Bool) (counted : BumpEntry → Bool) (entry : BumpEntry) (log : BumpLog) →
    count_by counted (if own then entry ∷ log else log) ≡ weight own (counted entry) + count_by counted log
count_own true counted entry log = sum_by-cons (λ entry. if counted entry then 1 else 0) entry log
count_own false counted entry log = omega arith

module _ (region : Region) (party : ℕ) where
  -- how often a step of the party has such an outcome
  counted_from : (BumpOutcome → Bool) → BumpState → List BumpStep → ℕ
  counted_from counted state steps =
      count_by (λ entry. counted entry.outcome) (entries_by party (bump_history region state steps))

  abbrev losses_from : BumpState → List BumpStep → ℕ
  losses_from state steps = counted_from is_loss state steps

  abbrev begun_from : BumpState → List BumpStep → ℕ
  begun_from state steps = counted_from is_beginning state steps

  counted_from-cons : (counted : BumpOutcome → Bool) (state : BumpState) (step : BumpStep) (steps : List BumpStep) →
      counted_from counted state (step ∷ steps) ≡ weight (is_by party step) (counted (bump_step region state step).outcome)
      + counted_from counted (bump_step region state step).state steps
  unfolding counted_from
  counted_from-cons counted state step steps = grind (arith, count_own)

  counted_from-nil : (counted : BumpOutcome → Bool) (state : BumpState) → counted_from counted state [] ≡ 0
  unfolding counted_from
  counted_from-nil counted state = refl

  -- an idle party that begins no call loses nothing
  idle_loses_nothing : (state : BumpState) (steps : List BumpStep) → HasNoClear steps → IsIdle state party →
      begun_from state steps ≡ 0 → losses_from state steps ≡ 0
  idle_loses_nothing state [] none now few = counted_from-nil is_loss state
  idle_loses_nothing state (step ∷ steps) none now few =
      let parts = not_clear step steps none in
      let next = (bump_step region state step).state in
      let count = counted_from-cons is_loss state step steps in
      let begun = counted_from-cons is_beginning state step steps in
      elim (idle_turn region state step party (is_by party step) refl parts.0 now) as
      (λ _. losses_from state (step ∷ steps) ≡ 0) [
        | stays later lost ↦
            let rest = idle_loses_nothing next steps parts.1 later (omega (arith, begun, few)) in omega (arith, count, lost, rest)
        | begins call is lost one ↦ absurd (omega (arith, begun, few, one))
      ]

  -- a call that goes on loses at most one exchange for each position above the one that it has seen
  call_loses_little : (state : BumpState) (steps : List BumpStep) (call : OngoingCall) →
      HasNoClear steps → SeesNoMore state party → IsInCall state party call → begun_from state steps ≡ 0 →
      losses_from state steps + call.seen ≤ (bump_after region state steps).position
  call_loses_little state [] call none below is few = omega (arith, counted_from-nil is_loss state, below call is)
  call_loses_little state (step ∷ steps) call none below is few =
      let parts = not_clear step steps none in
      let move = bump_step region state step in
      let next = move.state in
      let count = counted_from-cons is_loss state step steps in
      let begun = counted_from-cons is_beginning state step steps in
      let none_later : begun_from next steps ≡ 0 = omega (arith, begun, few) in
      elim (call_turn region state step party call (is_by party step) refl parts.0 is (below call is))
      as (λ _. losses_from state (step ∷ steps) + call.seen ≤ (bump_after region next steps).position) [
        | goes_on later at more ↦
            let sees_next = step_sees region state step move party (step_view region state step) parts.0 below in
            let rest = call_loses_little next steps later parts.1 sees_next at none_later in omega (arith, count, more, rest)
        | ends at more ↦
            let rest = idle_loses_nothing next steps parts.1 at none_later in
            omega (arith, count, more, rest, stretch_rises region next steps parts.1)
      ]

  one_call_loses_little : (state : BumpState) (steps : List BumpStep) → HasNoClear steps → IsIdle state party →
      begun_from state steps ≤ 1 → losses_from state steps ≤ (bump_after region state steps).position
  one_call_loses_little state [] none now few = omega (arith, counted_from-nil is_loss state)
  one_call_loses_little state (step ∷ steps) none now few =
      let parts = not_clear step steps none in
      let move = bump_step region state step in
      let next = move.state in
      let count = counted_from-cons is_loss state step steps in
      let begun = counted_from-cons is_beginning state step steps in
      elim (idle_turn region state step party (is_by party step) refl parts.0 now)
      as (λ _. losses_from state (step ∷ steps) ≤ (bump_after region next steps).position) [
        | stays later lost ↦
            let rest = one_call_loses_little next steps parts.1 later (omega (arith, begun, few)) in
            omega (arith, count, lost, rest)
        | begins call is lost one ↦
            let view = step_view region state step in
            let below = step_sees region state step move party view parts.0 (idle_sees state party now) in
            let rest = call_loses_little next steps call parts.1 below is (omega (arith, begun, few, one)) in
            omega (arith, count, lost, rest)
      ]

-- FROM THE OPENING

pub losses_few : (scene : BumpScene) (before stretch : List BumpStep) (party : ℕ) → scene.opening ≤ scene.region.size →
    IsIdle (left_by scene before) party → HasNoClear stretch →
    calls_begun_in (entries_by party (stretch_after scene before stretch)) ≤ 1 →
    losses_in (entries_by party (stretch_after scene before stretch)) ≤ scene.region.size
unfolding counted_from
losses_few scene before stretch party within idle none few =
    let little = one_call_loses_little scene.region party (left_by scene before) stretch none idle few in
    let same = ap (λ (state : BumpState). state.position) (bump_after-append scene.region (opening_state scene) before stretch) in
    omega (arith, little, same, position_in_size scene (before ++ stretch) within)

pub losses_raise : (scene : BumpScene) (before stretch : List BumpStep) (party position : ℕ) (call : OngoingCall) →
    scene.opening ≤ scene.region.size →
    IsIdle (left_by scene before) party → HasNoClear stretch → IsInCall (left_by scene (before ++ stretch)) party call →
    IsLossAt position (outcome_after scene (before ++ stretch) (Exchange party)) → call.seen < position
losses_raise scene before stretch party position call within idle none is lost =
    grind (arith, stretch_sees, idle_sees, bump_after-append)
