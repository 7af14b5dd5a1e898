-- Stretches of steps with no clear: the position rises, and the chunks won are a sound list.
use Rattle.bb_memory_bump_machine.proofs.BumpRuns.{calls_stand, chunk_at-above, fitting_after, fitting_at_opening, left_by_calls-append, steps_make}
use Rattle.bb_memory_bump_machine.proofs.BumpSteps.{StepView, clears, exchanges, reads, refuses_loss, sees, step_view, wins}
use Rattle.bb_memory_bump_machine.specs.BumpLogs.{HasNoClear, asked_by, bump_calls, bump_history, chunks_won, decided, layout_in, left_by_calls, won_at}
use Rattle.bb_memory_bump_machine.specs.BumpMachine.{AllFitting, BumpMove, BumpScene, BumpState, BumpStep, Clear, Exchange, Load, Read, RefusedAtLoss, Wins, bump_after, bump_step, chunk_at, left_by, opening_state}
use Rattle.bb_memory_traits.proofs.LiveLists.{StandsFor-end, StandsFor-within, end_of_last-above, end_of_last-append, in_order-rest, sound_from_order, stands_for_some}
use Rattle.bb_memory_traits.specs.BumpObject.{StandsFor, end_of_last}
use Rattle.bb_memory_traits.specs.Chunk.{Chunk, IsSound, Region}
use Rattle.std.proofs.Common.{List, [], ap, append-nil, append_assoc, arith, subst, sym, ◌++◌, ◌∙◌, ◌∷◌, ◌≡◌, ◌≤◌}

abbrev pub IsClear : BumpStep → Type 0
IsClear Clear = Unit {0}
IsClear _ = ⊥

pub not_clear : (step : BumpStep) (steps : List BumpStep) → HasNoClear (step ∷ steps) → ¬ IsClear step × HasNoClear steps
not_clear (Read party layout) steps none = ((λ clear. clear), none)
not_clear (Exchange party) steps none = ((λ clear. clear), none)
not_clear (Load party) steps none = ((λ clear. clear), none)
not_clear Clear steps none = absurd none

-- a state that stands for some list, and in which each call fits
pub record IsHealthy (region : Region) (state : BumpState) : Type 0 where
  pub live : List Chunk
  pub stands : StandsFor region state.position live
  pub fitting : AllFitting region state

-- each state that a list of steps leaves is healthy
pub healthy_after : (scene : BumpScene) (steps : List BumpStep) → scene.opening ≤ scene.region.size →
    IsHealthy scene.region (left_by scene steps)
healthy_after scene steps within =
    let some = stands_for_some scene.region scene.opening within in
    record {
      live = _;
      stands = calls_stand scene some.0 steps some.1;
      fitting = fitting_after scene.region (opening_state scene) steps (fitting_at_opening scene);
    }

pub position_in_size : (scene : BumpScene) (steps : List BumpStep) → scene.opening ≤ scene.region.size →
    (left_by scene steps).position ≤ scene.region.size
position_in_size scene steps within =
    let healthy = healthy_after scene steps within in
    StandsFor-within scene.region (left_by scene steps).position healthy.live healthy.stands

-- ONE STEP

-- the object's list, whichever it is, grows by the chunk that is won
step_grows : (region : Region) (state : BumpState) (live : List Chunk) (step : BumpStep) (move : BumpMove) →
    StepView region state step move → ¬ IsClear step →
    left_by_calls live (decided move.outcome (asked_by state step)) ≡ live ++ won_at move.outcome
step_grows region state live step move (exchanges party call turn is (wins same)) not =
    ap (λ now. left_by_calls live (decided (Wins (chunk_at region state.position call.layout)) (layout_in now))) is
step_grows region state live step move (exchanges party call turn is (refuses_loss apart fit)) not =
    ap (λ now. left_by_calls live (decided (RefusedAtLoss state.position) (layout_in now))) is ∙ sym (append-nil live)
step_grows region state live step move (reads party layout turn idle asks (sees fit)) not = sym (append-nil live)
step_grows region state live step move clears not = absurd (not tt)
step_grows region state live step move _ not = sym (append-nil live)

-- the position doesn't fall
pub position_rises : (region : Region) (state : BumpState) (step : BumpStep) (move : BumpMove) → StepView region state step move →
    ¬ IsClear step → state.position ≤ move.state.position
position_rises region state step move (exchanges party call turn is (wins same)) not =
    omega (arith, chunk_at-above region state.position call.layout)
position_rises region state step move (reads party layout turn idle asks (sees fit)) not = omega arith
position_rises region state step move clears not = absurd (not tt)
position_rises region state step move _ not = omega arith

-- OVER A STRETCH

pub stretch_rises : (region : Region) (state : BumpState) (steps : List BumpStep) → HasNoClear steps →
    state.position ≤ (bump_after region state steps).position
stretch_rises region state [] none = omega arith
stretch_rises region state (step ∷ steps) none =
    let parts = not_clear step steps none in
    let move = bump_step region state step in
    omega (
      arith,
      position_rises region state step move (step_view region state step) parts.0,
      stretch_rises region move.state steps parts.1,
    )

pub stretch_grows : (region : Region) (state : BumpState) (live : List Chunk) (steps : List BumpStep) → HasNoClear steps →
    left_by_calls live (bump_calls region state steps) ≡ live ++ chunks_won (bump_history region state steps)
stretch_grows region state live [] none = sym (append-nil live)
stretch_grows region state live (step ∷ steps) none =
    let parts = not_clear step steps none in
    let move = bump_step region state step in
    let calls = decided move.outcome (asked_by state step) in
    let later = chunks_won (bump_history region move.state steps) in
    left_by_calls-append live calls (bump_calls region move.state steps)
    ∙ stretch_grows region move.state (left_by_calls live calls) steps parts.1
    ∙ ap (λ (list : List Chunk). list ++ later) (step_grows region state live step move (step_view region state step) parts.0)
    ∙ append_assoc live (won_at move.outcome) later

-- a position that stands for a list then stands for the list followed by the chunks won
pub stretch_stands : (region : Region) (state : BumpState) (live : List Chunk) (steps : List BumpStep) → HasNoClear steps →
    StandsFor region state.position live → AllFitting region state →
    StandsFor region (bump_after region state steps).position (live ++ chunks_won (bump_history region state steps))
stretch_stands region state live steps none stands fitting =
    subst (StandsFor region (bump_after region state steps).position) (stretch_grows region state live steps none)
    (steps_make region state live steps stands fitting).stands

-- the chunks won from a healthy state on are a sound list
pub sound_from : (region : Region) (state : BumpState) (steps : List BumpStep) → IsHealthy region state → HasNoClear steps →
    IsSound region (chunks_won (bump_history region state steps))
sound_from region state steps healthy none =
    let live = healthy.live in
    let won = chunks_won (bump_history region state steps) in
    let after = stretch_stands region state live steps none healthy.stands healthy.fitting in
    let position = (bump_after region state steps).position in
    sound_from_order region (end_of_last region.start live) won
    (end_of_last-above region.start live healthy.stands.in_order)
    (in_order-rest region.start live won after.in_order)
    (omega (
      arith,
      end_of_last-append region.start live won,
      StandsFor-end region position (live ++ won) after,
      StandsFor-within region position (live ++ won) after,
    ))
