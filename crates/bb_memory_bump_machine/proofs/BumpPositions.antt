-- Lemmas about the position that a log shows.
use Rattle.bb_memory_bump_machine.proofs.BumpAllowed.{first_allowed, no_clear_when_allowed, rest_allowed}
use Rattle.bb_memory_bump_machine.proofs.BumpRuns.{calls_stand, chunk_at-above}
use Rattle.bb_memory_bump_machine.proofs.BumpSteps.{StepView, clears, exchanges, passes, reads, sees, step_view, wins}
use Rattle.bb_memory_bump_machine.proofs.BumpStretches.{position_in_size, stretch_rises}
use Rattle.bb_memory_bump_machine.specs.BumpLogs.{AllAllowed, BumpEntry, BumpLog, CommonInterleaving, HasLog, HasPositionUpTo, Interleaving, IsAllowed, LogsAgree, OpensWith, bump_history, greater_of, greatest_in, history_of, is_by, live_after, position_in, seen_in}
use Rattle.bb_memory_bump_machine.specs.BumpMachine.{BumpMove, BumpScene, BumpState, BumpStep, bump_after, bump_step, left_by, opening_state}
use Rattle.bb_memory_traits.specs.BumpObject.{StandsFor}
use Rattle.bb_memory_traits.specs.Chunk.{Chunk, Region}
use Rattle.std.proofs.Common.{List, None, Option, Some, [], arith, subst, ℕ, ◌∷◌, ◌≡◌, ◌≤◌}
use Rattle.std.proofs.lemmas.List.Elements.{All-filter, All-from_recursion, recursion_from_All}
use Rattle.std.specs.List.{All, AllByRecursion}
use Rattle.std.specs.Prelude.{IfSome}

-- POSITIONS IN A LOG

-- an allowed step leaves the greater of the position before it and the one in its outcome
pub step_leaves : (region : Region) (state : BumpState) (step : BumpStep) (move : BumpMove) → StepView region state step move →
    IsAllowed move.outcome → greater_of state.position (position_in region move.outcome) ≡ move.state.position
step_leaves region state step move (reads party layout turn idle asks (sees fit)) allowed = omega arith
step_leaves region state step move (exchanges party call turn is (wins same)) allowed =
    omega (arith, chunk_at-above region state.position call.layout)
step_leaves region state step move clears allowed = absurd allowed
step_leaves region state step move (passes other) allowed = absurd allowed
step_leaves region state step move _ allowed = omega arith

pub below_greater : (seen bound : ℕ) (found : Option ℕ) → greater_of seen found ≤ bound →
    IfSome found (λ position. position ≤ bound)
below_greater seen bound None below = tt
below_greater seen bound (Some position) below = omega arith

pub greater_below : (seen bound : ℕ) (found : Option ℕ) → seen ≤ bound → IfSome found (λ position. position ≤ bound) →
    greater_of seen found ≤ bound
greater_below seen bound None below found_below = below
greater_below seen bound (Some position) below found_below = omega arith

-- each position in a history is at most the one that is left
history_below : (region : Region) (state : BumpState) (steps : List BumpStep) → AllAllowed (bump_history region state steps) →
    AllByRecursion (HasPositionUpTo (bump_after region state steps).position region) (bump_history region state steps)
history_below region state [] allowed = tt
history_below region state (step ∷ steps) allowed =
    let here = first_allowed region state step steps allowed in
    let rest = rest_allowed region state step steps allowed in
    let move = bump_step region state step in
    let left = (bump_after region move.state steps).position in
    let leaves = step_leaves region state step move (step_view region state step) here in
    let rises = stretch_rises region move.state steps (no_clear_when_allowed region move.state steps rest) in (
      below_greater state.position left (position_in region move.outcome)
          (omega (arith, leaves, rises)),
      history_below region move.state steps rest,
    )

pub position_risen : (scene : BumpScene) (position : ℕ) (logs : List BumpLog) → LogsAgree scene position logs →
    scene.opening ≤ position
position_risen scene position logs agree =
    let none = no_clear_when_allowed scene.region (opening_state scene) agree.steps agree.allowed in
    omega (arith, stretch_rises scene.region (opening_state scene) agree.steps none, agree.leaves)

pub position_within : (scene : BumpScene) (position : ℕ) (logs : List BumpLog) → scene.opening ≤ scene.region.size →
    LogsAgree scene position logs → position ≤ scene.region.size
position_within scene position logs within agree = omega (arith, position_in_size scene agree.steps within, agree.leaves)

-- WHAT A PARTY HAS SEEN

pub greatest_in-below : (region : Region) (seen bound : ℕ) (log : BumpLog) → seen ≤ bound →
    AllByRecursion (HasPositionUpTo bound region) log → greatest_in region seen log ≤ bound
greatest_in-below region seen bound [] below all = below
greatest_in-below region seen bound (entry ∷ log) below (here, rest) =
    let found = position_in region entry.outcome in
    greatest_in-below region (greater_of seen found) bound log (greater_below seen bound found below here) rest

module _ (scene : BumpScene) (position : ℕ) (logs : List BumpLog) (party : ℕ) (log : BumpLog)
    (agree : LogsAgree scene position logs) (at : HasLog logs party log) where
  log_below : AllByRecursion (HasPositionUpTo position scene.region) log
  log_below =
      let history = history_of scene agree.steps in
      let P : BumpEntry → Type 0 = HasPositionUpTo (left_by scene agree.steps).position scene.region in
      let all = All-from_recursion P history (history_below scene.region (opening_state scene) agree.steps agree.allowed) in
      let own = All-filter (λ (e : BumpEntry). is_by party e.step) P history all in
      subst (λ (bound : ℕ). AllByRecursion (HasPositionUpTo bound scene.region) log) agree.leaves
      (recursion_from_All P log (subst (All P) (agree.each party log at) own))

  -- a party has seen at most the position
  pub seen_below : seen_in scene log ≤ position
  seen_below =
      greatest_in-below scene.region scene.opening position log (position_risen scene position logs agree) log_below

  pub interleaved : Interleaving scene party log position
  interleaved = record { steps = agree.steps; allowed = agree.allowed; leaves = agree.leaves; logged = agree.each party log at }

-- INTERLEAVINGS

pub both_interleaved : (scene : BumpScene) (position : ℕ) (logs : List BumpLog) (party : ℕ) (log : BumpLog) (other : ℕ)
    (other_log : BumpLog) → LogsAgree scene position logs → HasLog logs party log → HasLog logs other other_log →
    CommonInterleaving scene party log other other_log position
both_interleaved scene position logs party log other other_log agree at other_at = grind arith

pub interleaving_stands : (scene : BumpScene) (position party : ℕ) (log : BumpLog) (live : List Chunk)
    (interleaving : Interleaving scene party log position) →
    OpensWith scene live → StandsFor scene.region position (live_after scene live interleaving.steps)
interleaving_stands scene position party log live interleaving opens =
    subst (λ (left : ℕ). StandsFor scene.region left (live_after scene live interleaving.steps)) interleaving.leaves
    (calls_stand scene live interleaving.steps opens)
