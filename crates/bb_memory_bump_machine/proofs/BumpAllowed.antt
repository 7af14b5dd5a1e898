-- Lists of steps that are all allowed: they have no clear, and no step of a party that the machine
-- doesn't have.
use Rattle.bb_memory_bump_machine.proofs.BumpSteps.{StepView, clears, exchanges, loads, passes, reads, step_view}
use Rattle.bb_memory_bump_machine.specs.BumpLogs.{AllAllowed, BumpEntry, BumpLog, HasNoClear, IsAllowed, bump_history, entries_by, entry_at, history_of, is_by, log_of}
use Rattle.bb_memory_bump_machine.specs.BumpMachine.{BumpMove, BumpScene, BumpState, BumpStep, Clear, Exchange, Load, OngoingCall, Read, bump_step}
use Rattle.bb_memory_traits.specs.Chunk.{Region}
use Rattle.std.proofs.Common.{Bool, List, None, Option, Some, [], ap, arith, false, length, refl, sym, true, ℕ, ◌<◌, ◌∙◌, ◌∷◌, ◌≡◌, ◌≢◌, ◌≤◌}
use Rattle.std.proofs.lemmas.Bool.{eq-eqb, eqb-true, ne_eqb}
use Rattle.std.proofs.lemmas.List.{length-replicate, length-set}
use Rattle.std.proofs.lemmas.List.Elements.{All-head, All-nil, All-tail}
use Rattle.std.proofs.lemmas.Option.{slice_get_within}
use Rattle.std.specs.Prelude.{if◌then◌else◌, slice_get}

-- no step at all is allowed
pub none_allowed : AllAllowed []
none_allowed = All-nil (λ (entry : BumpEntry). IsAllowed entry.outcome)

-- steps that are all allowed begin with one that is, and go on so
pub first_allowed : (region : Region) (state : BumpState) (step : BumpStep) (steps : List BumpStep) →
    AllAllowed (bump_history region state (step ∷ steps)) → IsAllowed (bump_step region state step).outcome
first_allowed region state step steps allowed = grind (arith, All-head)

pub rest_allowed : (region : Region) (state : BumpState) (step : BumpStep) (steps : List BumpStep) →
    AllAllowed (bump_history region state (step ∷ steps)) →
    AllAllowed (bump_history region (bump_step region state step).state steps)
rest_allowed region state step steps allowed =
    All-tail (λ (entry : BumpEntry). IsAllowed entry.outcome) (entry_at region state step)
    (bump_history region (bump_step region state step).state steps) allowed

-- NO CLEAR

no_clear_first : (region : Region) (state : BumpState) (step : BumpStep) (steps : List BumpStep) →
    IsAllowed (bump_step region state step).outcome → HasNoClear steps → HasNoClear (step ∷ steps)
no_clear_first region state (Read party layout) steps allowed none = none
no_clear_first region state (Exchange party) steps allowed none = none
no_clear_first region state (Load party) steps allowed none = none
no_clear_first region state Clear steps allowed none = absurd allowed

-- allowed steps of parties have no clear
pub no_clear_when_allowed : (region : Region) (state : BumpState) (steps : List BumpStep) →
    AllAllowed (bump_history region state steps) → HasNoClear steps
no_clear_when_allowed region state [] allowed = tt
no_clear_when_allowed region state (step ∷ steps) allowed =
    no_clear_first region state step steps (first_allowed region state step steps allowed)
    (no_clear_when_allowed region (bump_step region state step).state steps (rest_allowed region state step steps allowed))

-- WHOSE A STEP IS

-- an allowed step is that of a party that is there
pub record HasOwner (state : BumpState) (step : BumpStep) : Type 0 where
  pub party : ℕ
  pub there : party < length state.calls
  pub own : is_by party step ≡ true

owned : (state : BumpState) (step : BumpStep) (party : ℕ) (now : Option OngoingCall) →
    slice_get state.calls party ≡ Some now → is_by party step ≡ true → HasOwner state step
owned state step party now at own =
    record { party = party; there = slice_get_within state.calls party now at; own = own }

pub owner_of : (region : Region) (state : BumpState) (step : BumpStep) (move : BumpMove) → StepView region state step move →
    IsAllowed move.outcome → HasOwner state step
owner_of region state step move (reads party layout turn idle asks view) allowed =
    owned state step party None idle (eq-eqb party party refl)
owner_of region state step move (exchanges party call turn is view) allowed =
    owned state step party (Some call) is (eq-eqb party party refl)
owner_of region state step move (loads party idle) allowed = owned state step party None idle (eq-eqb party party refl)
owner_of region state step move clears allowed = absurd allowed
owner_of region state step move (passes other) allowed = absurd allowed

-- a step is one party's only
pub not_by : (party other : ℕ) (step : BumpStep) → party ≢ other → is_by party step ≡ true → is_by other step ≡ false
not_by party other (Read p layout) apart own = ne_eqb p other (λ same. apart (sym (eqb-true p party own) ∙ same))
not_by party other (Exchange p) apart own = ne_eqb p other (λ same. apart (sym (eqb-true p party own) ∙ same))
not_by party other (Load p) apart own = ne_eqb p other (λ same. apart (sym (eqb-true p party own) ∙ same))
not_by party other Clear apart own = refl

-- NOBODY ELSE

-- no step changes how many parties there are
pub parties_stay : (region : Region) (state : BumpState) (step : BumpStep) (move : BumpMove) → StepView region state step move →
    length move.state.calls ≡ length state.calls
parties_stay region state step move (reads party layout turn idle asks view) = length-set state.calls party turn.call
parties_stay region state step move (exchanges party call turn is view) = length-set state.calls party turn.call
parties_stay region state step move _ = refl

-- an allowed step is that of a party that is there
step_is_another : (region : Region) (state : BumpState) (step : BumpStep) (move : BumpMove) (party : ℕ) →
    StepView region state step move → IsAllowed move.outcome → length state.calls ≤ party → is_by party step ≡ false
step_is_another region state step move party view allowed past =
    let owner = owner_of region state step move view allowed in
    not_by owner.party party step (λ same. omega (arith, owner.there, past, same)) owner.own

none_by : (region : Region) (state : BumpState) (steps : List BumpStep) (party : ℕ) → length state.calls ≤ party →
    AllAllowed (bump_history region state steps) → entries_by party (bump_history region state steps) ≡ []
none_by region state [] party past allowed = refl
none_by region state (step ∷ steps) party past allowed =
    let move = bump_step region state step in
    let view = step_view region state step in
    let log : BumpLog = entries_by party (bump_history region move.state steps) in
    ap (λ (own : Bool). if own then entry_at region state step ∷ log else log)
    (step_is_another region state step move party view (first_allowed region state step steps allowed) past)
    ∙ none_by region move.state steps party (omega (arith, parties_stay region state step move view, past))
    (rest_allowed region state step steps allowed)

-- a party that was not made has no step that is allowed
pub nobody_else : (scene : BumpScene) (steps : List BumpStep) (party : ℕ) → scene.parties ≤ party →
    AllAllowed (history_of scene steps) → log_of scene steps party ≡ []
nobody_else scene steps party past allowed = grind (arith, length-replicate, none_by, party)
