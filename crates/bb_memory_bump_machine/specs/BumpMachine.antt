-- The bump machine: what any number of parties do to one position, one atomic step at a time. A
-- party is named by its number, from 0 on.
pub use Rattle.bb_memory_bump_machine.specs.declared.steps.bump.BumpOutcome.{BumpOutcome}
pub use Rattle.bb_memory_bump_machine.specs.declared.steps.bump.BumpOutcome.TheVariants.{Cleared, Loaded, Loses, Passed, RefusedAtLoss, RefusedAtRead, Sees, Wins}
pub use Rattle.bb_memory_bump_machine.specs.declared.steps.bump.BumpStep.{BumpStep}
pub use Rattle.bb_memory_bump_machine.specs.declared.steps.bump.BumpStep.TheVariants.{Clear, Exchange, Load, Read}
use Rattle.bb_memory_bump_machine.specs.declared.steps.bump_world.OngoingCall as declared
pub use Rattle.bb_memory_bump_machine.specs.declared.steps.bump_world.PartyMove.{PartyMove}
use Rattle.bb_memory_traits.specs.BumpObject.{chunk_at_or_after}
use Rattle.bb_memory_traits.specs.Chunk.{Chunk, Region, chunk_end, region_end}
pub use Rattle.bb_memory_traits.specs.declared.layout.Layout.{Layout}
use Rattle.std.specs.Prelude.{Bool, List, None, Option, Some, [], if◌then◌else◌, nat_le, replicate, slice_get, slice_set, true, ℕ, ◌+◌, ◌-◌, ◌<◌, ◌==◌, ◌∷◌, ◌≡◌}

-- STATES

-- a call in progress: the layout that it requested, and the position that it has seen
abbrev pub OngoingCall : Type 0
OngoingCall = declared.OngoingCall

-- the position, and for each party its call in progress, or None if it is idle
pub record BumpState : Type 0 where
  pub position : ℕ
  pub calls : List (Option OngoingCall)

-- the scene in which a machine begins: its region, the position at the opening, and how many
-- parties it has
pub record BumpScene : Type 0 where
  pub region : Region
  pub opening : ℕ
  pub parties : ℕ

-- the state at the opening, in which each party is idle
abbrev pub opening_state : BumpScene → BumpState
opening_state scene = record { position = scene.opening; calls = replicate scene.parties None }

-- the party is one of the machine's, and is in no call
abbrev pub IsIdle : BumpState → ℕ → Type 0
IsIdle state party = slice_get state.calls party ≡ Some None

-- the party is in this call
abbrev pub IsInCall : BumpState → ℕ → OngoingCall → Type 0
IsInCall state party call = slice_get state.calls party ≡ Some (Some call)

-- CHUNKS

-- the chunk that a request for this layout gets at a position, if it fits there
abbrev pub chunk_at : Region → ℕ → Layout → Chunk
chunk_at region position layout = chunk_at_or_after (region.start + position) layout

-- the chunk of a layout at a position ends inside the region
abbrev pub fits : Region → ℕ → Layout → Bool
fits region position layout = nat_le (chunk_end (chunk_at region position layout)) (region_end region)

-- the position at which a chunk ends
abbrev pub position_behind : Region → Chunk → ℕ
position_behind region chunk = chunk_end chunk - region.start

-- the call requests at least one byte, and its chunk fits at the position that it has seen
pub record IsFitting (region : Region) (call : OngoingCall) : Type 0 where
  pub asks : 0 < call.layout.size
  pub fitting : fits region call.seen call.layout ≡ true

-- every call in progress fits
abbrev pub AllFitting : Region → BumpState → Type 0
AllFitting region state = (party : ℕ) (call : OngoingCall) → IsInCall state party call → IsFitting region call

-- STEPS

-- a move with this outcome that leaves the party idle and the machine at this position
abbrev pub ending : BumpOutcome → ℕ → PartyMove
ending outcome position = record { outcome = outcome; position = position; call = None }

-- a move with this outcome that leaves the party in a call for this layout, which has seen this
-- position, and the machine at this position
abbrev pub seeing : BumpOutcome → ℕ → Layout → PartyMove
seeing outcome position layout =
    let call : OngoingCall = record { layout = layout; seen = position } in
    record { outcome = outcome; position = position; call = Some call }

-- A read finds this position. If the layout fits there, a call begins, which has seen the position.
-- Otherwise the request is refused.
abbrev pub read_move : Region → ℕ → Layout → PartyMove
read_move region position layout =
    if fits region position layout then seeing (Sees position) position layout else ending (RefusedAtRead position) position

-- A lost exchange finds this position. If the layout fits there, the call goes on, and has seen the
-- position. Otherwise the request is refused.
abbrev pub loss_move : Region → ℕ → Layout → PartyMove
loss_move region position layout =
    if fits region position layout then seeing (Loses position) position layout else ending (RefusedAtLoss position) position

-- An exchange finds this position. If it is the one that the call has seen, the call wins its
-- chunk, and the chunk's end is the new position. Otherwise the exchange is lost.
abbrev pub exchange_move : Region → ℕ → OngoingCall → PartyMove
exchange_move region position call =
    let chunk = chunk_at region position call.layout in
    if position == call.seen then ending (Wins chunk) (position_behind region chunk) else loss_move region position call.layout

-- the result of a step: its outcome, and the state after it
pub record BumpMove : Type 0 where
  pub outcome : BumpOutcome
  pub state : BumpState

-- a step that isn't allowed, which changes nothing
abbrev pub passed : BumpState → BumpMove
passed state = record { outcome = Passed; state = state }

-- the state after a party's move: it has the position of the move, and the party is in the call
-- that the move leaves
abbrev pub moved : BumpState → ℕ → PartyMove → BumpMove
moved state party turn = record {
  outcome = turn.outcome;
  state = record { position = turn.position; calls = slice_set state.calls party turn.call };
}

-- A read by a party whose state is the last argument: `Some None` if the party is idle,
-- `Some (Some call)` if it is in a call, and `None` if the machine has no such party. The read is
-- allowed if the party is idle and requests at least one byte.
abbrev pub read : Region → BumpState → ℕ → Layout → Option (Option OngoingCall) → BumpMove
read region state party layout (Some None) =
    if layout.size == 0 then passed state else moved state party (read_move region state.position layout)
read region state party layout _ = passed state

-- An exchange by a party whose state is the last argument, as for `read`. The exchange is allowed
-- if the party is in a call.
abbrev pub exchange : Region → BumpState → ℕ → Option (Option OngoingCall) → BumpMove
exchange region state party (Some (Some call)) = moved state party (exchange_move region state.position call)
exchange region state party _ = passed state

-- A load by a party whose state is the last argument, as for `read`. The load is allowed if the
-- party is idle, and changes nothing.
abbrev pub load : BumpState → Option (Option OngoingCall) → BumpMove
load state (Some None) = record { outcome = Loaded state.position; state = state }
load state _ = passed state

-- The effect of a step in this state. A clear sets the position to 0; calls in progress are
-- unchanged.
abbrev pub bump_step : Region → BumpState → BumpStep → BumpMove
bump_step region state (Read party layout) = read region state party layout (slice_get state.calls party)
bump_step region state (Exchange party) = exchange region state party (slice_get state.calls party)
bump_step region state (Load party) = load state (slice_get state.calls party)
bump_step region state Clear = record { outcome = Cleared; state = record { position = 0; calls = state.calls } }

-- the state after these steps, from this state on
abbrev pub bump_after : Region → BumpState → List BumpStep → BumpState
bump_after region state [] = state
bump_after region state (step ∷ steps) = bump_after region (bump_step region state step).state steps

-- the state after these steps, from the opening on
abbrev pub left_by : BumpScene → List BumpStep → BumpState
left_by scene steps = bump_after scene.region (opening_state scene) steps
