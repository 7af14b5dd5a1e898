-- The calls that a list of steps decides are a run of the bump object.
use Rattle.bb_memory_bump_machine.proofs.BumpSteps.{StepView, all_fitting-step, clears, exchanges, reads, refuses_loss, refuses_read, step_view, wins}
use Rattle.bb_memory_bump_machine.specs.BumpLogs.{Allocate, BumpCall, ClearAll, IsCallRun, OpensWith, asked_by, bump_calls, calls_after, calls_of, decided, layout_in, left_by_calls, live_after}
use Rattle.bb_memory_bump_machine.specs.BumpMachine.{AllFitting, BumpMove, BumpScene, BumpState, BumpStep, Layout, RefusedAtLoss, Wins, bump_after, bump_step, chunk_at, fits, left_by, opening_state, position_behind}
use Rattle.bb_memory_lists.proofs.SliceGets.{slice_get-replicated}
use Rattle.bb_memory_traits.proofs.LeastPlaces.{least_place-is}
use Rattle.bb_memory_traits.proofs.LiveLists.{StandsFor-empty, StandsFor-end, StandsFor-push}
use Rattle.bb_memory_traits.specs.BumpObject.{StandsFor, chunk_at_or_after, next_chunk, used_space}
use Rattle.bb_memory_traits.specs.Chunk.{Chunk, Region, chunk_end, region_end}
use Rattle.bb_memory_traits.specs.Object.{appended}
use Rattle.bb_memory_traits.specs.declared.allocator.AllocationError.TheVariants.{OutOfMemory}
use Rattle.std.proofs.Common.{Err, List, None, Ok, Option, Some, [], ap, append_assoc, arith, false, refl, subst, sym, true, ℕ, ◌++◌, ◌+◌, ◌<◌, ◌∙◌, ◌∷◌, ◌≡◌, ◌≤◌}
use Rattle.std.proofs.lemmas.Bool.{leb-false, leb-true}

-- CALLS ONE AFTER ANOTHER

-- the calls are a run, and a bump at this position stands for the list that they leave
pub record MakesCalls (region : Region) (live : List Chunk) (calls : List BumpCall) (position : ℕ) : Type 0 where
  pub run : IsCallRun region live calls (left_by_calls live calls)
  pub stands : StandsFor region position (left_by_calls live calls)

pub left_by_calls-append : (live : List Chunk) (first then : List BumpCall) →
    left_by_calls live (first ++ then) ≡ left_by_calls (left_by_calls live first) then
left_by_calls-append live [] then = refl
left_by_calls-append live (Allocate layout answer ∷ first) then = left_by_calls-append (appended live answer) first then
left_by_calls-append live (ClearAll ∷ first) then = left_by_calls-append [] first then

run-append : (region : Region) (live mid new : List Chunk) (first then : List BumpCall) → IsCallRun region live first mid →
    IsCallRun region mid then new → IsCallRun region live (first ++ then) new
run-append region live mid new [] then same more = subst (λ (old : List Chunk). IsCallRun region old then new) same more
run-append region live mid new (call ∷ first) then (next, step, rest) more =
    (next, step, run-append region next mid new first then rest more)

calls-append : (region : Region) (live : List Chunk) (first then : List BumpCall) (between position : ℕ) →
    MakesCalls region live first between → MakesCalls region (left_by_calls live first) then position →
    MakesCalls region live (first ++ then) position
calls-append region live first then between position one more =
    let left = sym (left_by_calls-append live first then) in
    record {
      run = subst (IsCallRun region live (first ++ then)) left
          (run-append region live (left_by_calls live first) (left_by_calls (left_by_calls live first) then)
          first then one.run more.run);
      stands = subst (StandsFor region position) left more.stands;
    }

-- ONE STEP

-- the chunk of a layout at a position is the one that the layout gets on a list that the position
-- stands for
chunk_at-next : (region : Region) (position : ℕ) (live : List Chunk) (layout : Layout) → StandsFor region position live →
    chunk_at region position layout ≡ next_chunk region live layout
chunk_at-next region position live layout stands =
    ap (λ v. chunk_at_or_after v layout) (StandsFor-end region position live stands)

-- the chunk at a position begins at that position or after it
pub chunk_at-above : (region : Region) (position : ℕ) (layout : Layout) →
    region.start + position ≤ (chunk_at region position layout).place
chunk_at-above region position layout = (least_place-is (region.start + position) layout.align layout.valid.positive).above

call_refused : (region : Region) (live : List Chunk) (position : ℕ) (layout : Layout) → StandsFor region position live →
    0 < layout.size → fits region position layout ≡ false →
    MakesCalls region live (Allocate layout (Err OutOfMemory) ∷ []) position
call_refused region live position layout stands asks fit =
    let chunk = chunk_at region position layout in
    let past = subst (λ (next : Chunk). region_end region < chunk_end next) (chunk_at-next region position live layout stands)
    (leb-false (chunk_end chunk) (region_end region) fit) in
    record { run = (live, record { answers = (asks, past); leaves = refl }, refl); stands = stands }

call_won : (region : Region) (live : List Chunk) (position : ℕ) (layout : Layout) → StandsFor region position live →
    0 < layout.size → fits region position layout ≡ true →
    MakesCalls region live (Allocate layout (Ok (chunk_at region position layout)) ∷ [])
    (position_behind region (chunk_at region position layout))
call_won region live position layout stands asks fit =
    let chunk = chunk_at region position layout in
    let within = leb-true (chunk_end chunk) (region_end region) fit in
    record {
      run = (
        live ++ chunk ∷ [],
        record { answers = (asks, within, chunk_at-next region position live layout stands); leaves = refl },
        refl,
      );
      stands = StandsFor-push region position live chunk stands
          (omega (arith, StandsFor-end region position live stands, chunk_at-above region position layout)) within;
    }

step_makes : (region : Region) (state : BumpState) (live : List Chunk) (step : BumpStep) (move : BumpMove) →
    StepView region state step move → StandsFor region state.position live → AllFitting region state →
    MakesCalls region live (decided move.outcome (asked_by state step)) move.state.position
step_makes region state live step move (reads party layout turn idle asks (refuses_read fit)) stands fitting =
    call_refused region live state.position layout stands asks fit
step_makes region state live step move (exchanges party call turn is (wins same)) stands fitting =
    let chunk = chunk_at region state.position call.layout in
    let own = fitting party call is in
    let now : fits region state.position call.layout ≡ true =
    ap (λ position. fits region position call.layout) same ∙ own.fitting in
    subst (λ (layout : Option Layout). MakesCalls region live (decided (Wins chunk) layout) (position_behind region chunk))
    (sym (ap layout_in is)) (call_won region live state.position call.layout stands own.asks now)
step_makes region state live step move (exchanges party call turn is (refuses_loss apart fit)) stands fitting =
    subst (λ (layout : Option Layout). MakesCalls region live (decided (RefusedAtLoss state.position) layout) state.position)
    (sym (ap layout_in is)) (call_refused region live state.position call.layout stands (fitting party call is).asks fit)
step_makes region state live step move clears stands fitting = record { run = ([], refl, refl); stands = StandsFor-empty region }
step_makes region state live step move _ stands fitting = record { run = refl; stands = stands }

-- ANY LIST OF STEPS

pub steps_make : (region : Region) (state : BumpState) (live : List Chunk) (steps : List BumpStep) →
    StandsFor region state.position live →
    AllFitting region state → MakesCalls region live (bump_calls region state steps) (bump_after region state steps).position
steps_make region state live [] stands fitting = record { run = refl; stands = stands }
steps_make region state live (step ∷ steps) stands fitting =
    let move = bump_step region state step in
    let view = step_view region state step in
    let calls = decided move.outcome (asked_by state step) in
    let one = step_makes region state live step move view stands fitting in
    let rest = steps_make region move.state (left_by_calls live calls) steps one.stands
    (all_fitting-step region state step move view fitting) in
    calls-append region live calls (bump_calls region move.state steps) move.state.position
    (bump_after region move.state steps).position one rest

pub bump_after-append : (region : Region) (state : BumpState) (first more : List BumpStep) →
    bump_after region state (first ++ more) ≡ bump_after region (bump_after region state first) more
bump_after-append region state [] more = refl
bump_after-append region state (step ∷ first) more = bump_after-append region (bump_step region state step).state first more

bump_calls-append : (region : Region) (state : BumpState) (first more : List BumpStep) → bump_calls region state (first ++ more)
    ≡ bump_calls region state first ++ bump_calls region (bump_after region state first) more
bump_calls-append region state [] more = refl
bump_calls-append region state (step ∷ first) more =
    let move = bump_step region state step in
    let calls = decided move.outcome (asked_by state step) in
    ap (λ (later : List BumpCall). calls ++ later) (bump_calls-append region move.state first more)
    ∙ sym (append_assoc calls (bump_calls region move.state first) (bump_calls region (bump_after region move.state first) more))

pub fitting_after : (region : Region) (state : BumpState) (steps : List BumpStep) → AllFitting region state →
    AllFitting region (bump_after region state steps)
fitting_after region state [] fitting = fitting
fitting_after region state (step ∷ steps) fitting =
    let move = bump_step region state step in
    fitting_after region move.state steps (all_fitting-step region state step move (step_view region state step) fitting)

-- at the opening nobody is in a call
pub fitting_at_opening : (scene : BumpScene) → AllFitting scene.region (opening_state scene)
fitting_at_opening scene party call is =
    let none : None ≡ Some call = slice_get-replicated scene.parties party None (Some call) is in absurd (cc)

-- FROM THE OPENING

scene_makes : (scene : BumpScene) (live : List Chunk) (steps : List BumpStep) → OpensWith scene live →
    MakesCalls scene.region live (calls_of scene steps) (left_by scene steps).position
scene_makes scene live steps opens = steps_make scene.region (opening_state scene) live steps opens (fitting_at_opening scene)

pub calls_run : (scene : BumpScene) (live : List Chunk) (steps : List BumpStep) → OpensWith scene live →
    IsCallRun scene.region live (calls_of scene steps) (live_after scene live steps)
calls_run scene live steps opens = (scene_makes scene live steps opens).run

pub calls_beginning : (scene : BumpScene) (before stretch : List BumpStep) →
    calls_of scene (before ++ stretch) ≡ calls_of scene before ++ calls_after scene before stretch
calls_beginning scene before stretch = bump_calls-append scene.region (opening_state scene) before stretch

-- the calls after a beginning are a run from the list that the beginning leaves
pub run_at_step : (scene : BumpScene) (live : List Chunk) (before stretch : List BumpStep) → OpensWith scene live →
    IsCallRun scene.region (live_after scene live before) (calls_after scene before stretch)
    (live_after scene live (before ++ stretch))
run_at_step scene live before stretch opens =
    let there = live_after scene live before in
    let made = steps_make scene.region (left_by scene before) there stretch (scene_makes scene live before opens).stands
    (fitting_after scene.region (opening_state scene) before (fitting_at_opening scene)) in
    let same : left_by_calls there (calls_after scene before stretch) ≡ live_after scene live (before ++ stretch) =
    sym (ap (left_by_calls live) (calls_beginning scene before stretch)
    ∙ left_by_calls-append live (calls_of scene before) (calls_after scene before stretch)) in
    subst (IsCallRun scene.region there (calls_after scene before stretch)) same made.run

pub calls_stand : (scene : BumpScene) (live : List Chunk) (steps : List BumpStep) → OpensWith scene live →
    StandsFor scene.region (left_by scene steps).position (live_after scene live steps)
calls_stand scene live steps opens = (scene_makes scene live steps opens).stands

pub position_used : (scene : BumpScene) (live : List Chunk) (steps : List BumpStep) → OpensWith scene live →
    (left_by scene steps).position ≡ used_space scene.region (live_after scene live steps)
position_used scene live steps opens = (calls_stand scene live steps opens).used
