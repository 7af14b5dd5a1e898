-- Steps of the bump machine, case by case.
use Rattle.bb_memory_bump_machine.specs.BumpLogs.{is_by}
use Rattle.bb_memory_bump_machine.specs.BumpMachine.{AllFitting, BumpMove, BumpState, BumpStep, Clear, Cleared, Exchange, IsFitting, IsIdle, IsInCall, Layout, Load, Loaded, Loses, OngoingCall, PartyMove, Read, RefusedAtLoss, RefusedAtRead, Sees, Wins, bump_step, chunk_at, ending, exchange, exchange_move, fits, load, moved, passed, position_behind, read, read_move, seeing}
use Rattle.bb_memory_lists.proofs.SliceGets.{slice_get-set, slice_get-set_other, slice_get-set_same}
use Rattle.bb_memory_traits.specs.Chunk.{Region}
use Rattle.std.proofs.Common.{Bool, List, None, Option, Some, ap, arith, false, refl, sym, true, ℕ, ◌<◌, ◌∙◌, ◌≡◌, ◌≢◌}
use Rattle.std.proofs.lemmas.Bool.{eqb-false, eqb-true}
use Rattle.std.proofs.lemmas.Option.{same_Some}
use Rattle.std.specs.Prelude.{IfSome, if◌then◌else◌, slice_get, slice_set, ◌==◌}

-- CASES

-- the effect of a read for a layout that has a byte
pub data ReadView (region : Region) (position : ℕ) (layout : Layout) : PartyMove → Type 0 where
  sees : fits region position layout ≡ true → ReadView region position layout (seeing (Sees position) position layout)
  refuses_read : fits region position layout ≡ false → ReadView region position layout (ending (RefusedAtRead position) position)

-- the effect of an exchange by a party in a call
pub data ExchangeView (region : Region) (position : ℕ) (call : OngoingCall) : PartyMove → Type 0 where
  wins : position ≡ call.seen → ExchangeView region position call
      (ending (Wins (chunk_at region position call.layout)) (position_behind region (chunk_at region position call.layout)))
  loses : position ≢ call.seen → fits region position call.layout ≡ true →
      ExchangeView region position call (seeing (Loses position) position call.layout)
  refuses_loss : position ≢ call.seen → fits region position call.layout ≡ false →
      ExchangeView region position call (ending (RefusedAtLoss position) position)

-- a step, and its effect
pub data StepView (region : Region) (state : BumpState) : BumpStep → BumpMove → Type 0 where
  reads : (party : ℕ) (layout : Layout) (turn : PartyMove) → IsIdle state party → 0 < layout.size →
      ReadView region state.position layout turn → StepView region state (Read party layout) (moved state party turn)
  exchanges : (party : ℕ) (call : OngoingCall) (turn : PartyMove) → IsInCall state party call →
      ExchangeView region state.position call turn → StepView region state (Exchange party) (moved state party turn)
  loads : (party : ℕ) → IsIdle state party →
      StepView region state (Load party) (record { outcome = Loaded state.position; state = state })
  clears : StepView region state Clear (record { outcome = Cleared; state = record { position = 0; calls = state.calls } })
  passes : (step : BumpStep) → StepView region state step (passed state)

module _ (region : Region) (position : ℕ) where
  read_fit : (layout : Layout) (fitting : Bool) → fits region position layout ≡ fitting → ReadView region position layout
      (if fitting then seeing (Sees position) position layout else ending (RefusedAtRead position) position)
  read_fit layout true fit = sees fit
  read_fit layout false fit = refuses_read fit

  pub read_move_view : (layout : Layout) → ReadView region position layout (read_move region position layout)
  read_move_view layout = read_fit layout (fits region position layout) refl

  exchange_fit : (call : OngoingCall) (same fitting : Bool) → (position == call.seen) ≡ same →
      fits region position call.layout ≡ fitting → let chunk = chunk_at region position call.layout in
      ExchangeView region position call (if same then ending (Wins chunk) (position_behind region chunk)
      else (if fitting then seeing (Loses position) position call.layout else ending (RefusedAtLoss position) position))
  exchange_fit call true fitting same fit = wins (eqb-true position call.seen same)
  exchange_fit call false true same fit = loses (eqb-false position call.seen same) fit
  exchange_fit call false false same fit = refuses_loss (eqb-false position call.seen same) fit

  pub exchange_move_view : (call : OngoingCall) → ExchangeView region position call (exchange_move region position call)
  exchange_move_view call = exchange_fit call (position == call.seen) (fits region position call.layout) refl refl

module _ (region : Region) (state : BumpState) (party : ℕ) where
  idle_view : (layout : Layout) (empty : Bool) → IsIdle state party → (layout.size == 0) ≡ empty →
      StepView region state (Read party layout)
      (if empty then passed state else moved state party (read_move region state.position layout))
  idle_view layout true idle size = passes (Read party layout)
  idle_view layout false idle size =
      reads party layout _ idle (omega (arith, eqb-false layout.size 0 size)) (read_move_view region state.position layout)

  read_view : (layout : Layout) (now : Option (Option OngoingCall)) → slice_get state.calls party ≡ now →
      StepView region state (Read party layout) (read region state party layout now)
  read_view layout (Some None) is = idle_view layout (layout.size == 0) is refl
  read_view layout _ is = passes (Read party layout)

  exchange_view : (now : Option (Option OngoingCall)) → slice_get state.calls party ≡ now →
      StepView region state (Exchange party) (exchange region state party now)
  exchange_view (Some (Some call)) is = exchanges party call _ is (exchange_move_view region state.position call)
  exchange_view _ is = passes (Exchange party)

  load_view : (now : Option (Option OngoingCall)) → slice_get state.calls party ≡ now →
      StepView region state (Load party) (load state now)
  load_view (Some None) is = loads party is
  load_view _ is = passes (Load party)

pub step_view : (region : Region) (state : BumpState) (step : BumpStep) → StepView region state step (bump_step region state step)
step_view region state (Read party layout) = read_view region state party layout (slice_get state.calls party) refl
step_view region state (Exchange party) = exchange_view region state party (slice_get state.calls party) refl
step_view region state (Load party) = load_view region state party (slice_get state.calls party) refl
step_view region state Clear = clears

-- PARTIES

other_set : (state : BumpState) (other party : ℕ) (now : Option OngoingCall) → (other == party) ≡ false →
    slice_get (slice_set state.calls other now) party ≡ slice_get state.calls party
other_set state other party now by =
    slice_get-set_other state.calls other party now (λ same. eqb-false other party by (sym same))

-- a step of another party leaves a party unchanged
pub others_stay : (region : Region) (state : BumpState) (step : BumpStep) (move : BumpMove) (party : ℕ) →
    StepView region state step move → is_by party step ≡ false → slice_get move.state.calls party ≡ slice_get state.calls party
others_stay region state step move party (reads other layout turn idle asks view) by = other_set state other party turn.call by
others_stay region state step move party (exchanges other call turn is view) by = other_set state other party turn.call by
others_stay region state step move party _ by = refl

-- the call that is written to a party's place is then there
pub written : (state : BumpState) (other party : ℕ) (was now : Option OngoingCall) → (other == party) ≡ true →
    slice_get state.calls other ≡ Some was → slice_get (slice_set state.calls other now) party ≡ Some now
written state other party was now by is = grind (arith, eqb-true, slice_get-set_same)

-- a party is in one call only, or idle
pub one_there : (state : BumpState) (other party : ℕ) (one now : Option OngoingCall) → (other == party) ≡ true →
    slice_get state.calls other ≡ Some one → slice_get state.calls party ≡ Some now → one ≡ now
one_there state other party one now by is at =
    same_Some one now (sym is ∙ ap (slice_get state.calls) (eqb-true other party by) ∙ at)

-- CALLS THAT FIT

-- a property of each call that a party may be in holds afterwards, if it holds for the call that is
-- written
pub each_call-set : (P : OngoingCall → Type 0) (calls : List (Option OngoingCall)) (party other : ℕ) (now : Option OngoingCall) →
    ((call : OngoingCall) → slice_get calls other ≡ Some (Some call) → P call) → IfSome now P →
    (call : OngoingCall) → slice_get (slice_set calls party now) other ≡ Some (Some call) → P call
each_call-set P calls party other None old new call is = grind (arith, slice_get-set)
each_call-set P calls party other (Some written) old new call is = grind (arith, slice_get-set, written, same_Some)

-- each call fits after a step
pub all_fitting-step : (region : Region) (state : BumpState) (step : BumpStep) (move : BumpMove) →
    StepView region state step move → AllFitting region state → AllFitting region move.state
all_fitting-step region state step move (reads party layout turn idle asks (sees fit)) old = λ other.
    each_call-set (IsFitting region) state.calls party other turn.call (old other) (record { asks = asks; fitting = fit })
all_fitting-step region state step move (reads party layout turn idle asks (refuses_read fit)) old = λ other.
    each_call-set (IsFitting region) state.calls party other None (old other) tt
all_fitting-step region state step move (exchanges party call turn is (loses apart fit)) old = λ other.
    each_call-set (IsFitting region) state.calls party other turn.call (old other)
    (record { asks = (old party call is).asks; fitting = fit })
all_fitting-step region state step move (exchanges party call turn is _) old = λ other.
    each_call-set (IsFitting region) state.calls party other None (old other) tt
all_fitting-step region state step move _ old = old
