-- Bump worlds: a bump machine over a region, to be stepped by hand.
use Rattle.bb_memory_bump_machine.specs.BumpLogs as histories
use Rattle.bb_memory_bump_machine.specs.BumpMachine.{AllFitting, BumpOutcome, BumpScene, BumpState, BumpStep, IsFitting, OngoingCall, PartyMove, bump_after, bump_step, opening_state}
use Rattle.bb_memory_traits.specs.Chunk.{IsRegion, Region}
use Rattle.std.specs.Prelude.{IfOk, IfSome, List, OnErr, OnOk, Option, Result, ℕ, ◌≡◌, ◌≤◌}
use Rattle.std.specs.declared.vec.Vec.{Vec}

-- a bump machine over a region, in some state
pub record BumpWorld : Type 0 where
  pub region : Region
  pub state : BumpState

-- the world over the region of `size` bytes at `start`, at this position and with these calls
abbrev pub world_of : ℕ → ℕ → ℕ → List (Option OngoingCall) → BumpWorld
world_of start size position calls = record {
  region = record { start = start; size = size };
  state = record { position = position; calls = calls };
}

-- The invariant of a world: its position is in its region, and each call in progress fits.
pub record IsBumpWorld (world : BumpWorld) : Type 0 where
  pub region : IsRegion world.region
  pub within : world.state.position ≤ world.region.size
  pub fitting : AllFitting world.region world.state

-- the region is valid, and the position is in it
pub record IsPositionIn (region : Region) (position : ℕ) : Type 0 where
  pub region_is : IsRegion region
  pub within : position ≤ region.size

-- A party's move is the expected one. The call that it leaves the party in fits, and the position
-- is in the region.
pub record IsMove (region : Region) (expected move : PartyMove) : Type 0 where
  pub value : move ≡ expected
  pub fitting : IfSome move.call (IsFitting region)
  pub within : move.position ≤ region.size

-- a fresh world over a region, at position 0, with this number of parties, each idle
abbrev pub opened : Region → ℕ → BumpWorld
opened region parties =
    let scene : BumpScene = record { region = region; opening = 0; parties = parties } in
    record { region = region; state = opening_state scene }

-- the world over the same region in this state
abbrev pub in_state : BumpWorld → BumpState → BumpWorld
in_state world state = record { region = world.region; state = state }

-- a call of a world that makes this step: the call returns the outcome, and the world is in the
-- state after the step
pub record Steps (old : BumpWorld) (step : BumpStep) (answer : BumpOutcome) (new : BumpWorld) : Type 0 where
  pub outcome : answer ≡ (bump_step old.region old.state step).outcome
  pub state : new ≡ in_state old (bump_step old.region old.state step).state

-- the outcomes of these steps in a world
abbrev pub outcomes_of : BumpWorld → List BumpStep → List BumpOutcome
outcomes_of world steps = histories.outcomes_of (histories.bump_history world.region world.state steps)

-- the world after these steps
abbrev pub after_steps : BumpWorld → List BumpStep → BumpWorld
after_steps world steps = in_state world (bump_after world.region world.state steps)

-- A call of a world that makes these steps: the call returns their outcomes, and the world is in
-- the state after them. If memory for the outcomes runs out, no step is made.
pub record Replays {Z E : Type 0} (old : BumpWorld) (steps : List BumpStep) (answer : Result (Vec BumpOutcome Z) E)
    (new : BumpWorld) : Type 0 where
  pub outcomes : IfOk answer (λ found. found.items ≡ outcomes_of old steps)
  pub state : OnOk answer (new ≡ after_steps old steps)
  pub unchanged : OnErr answer (new ≡ old)
