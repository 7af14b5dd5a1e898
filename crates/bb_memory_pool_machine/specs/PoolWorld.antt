-- A pool world: the pool machine over some buckets.
use Rattle.bb_memory_pool_machine.specs.PoolLogs as histories
use Rattle.bb_memory_pool_machine.specs.PoolMachine.{Flag, PoolOutcome, PoolState, PoolStep, pool_after, pool_step}
use Rattle.std.specs.Prelude.{IfOk, List, OnErr, OnOk, Option, Result, length, ℕ, ◌<◌, ◌^◌, ◌≡◌}
use Rattle.std.specs.declared.vec.Vec.{Vec}

-- the value of a world: the state of its machine
abbrev pub PoolWorld : Type 0
PoolWorld = PoolState

-- the world with these flags and passes
abbrev pub world_of : List Flag → List (Option ℕ) → PoolWorld
world_of flags calls = record { flags = flags; calls = calls }

-- the invariant of a world: each bucket has a number that a step can name
abbrev pub IsPoolWorld : PoolWorld → Type 0
IsPoolWorld world = length world.flags < 2 ^ 32

-- `answer` is the outcome of this step in the world `old`, which becomes `new`
pub record Steps (old : PoolWorld) (step : PoolStep) (answer : PoolOutcome) (new : PoolWorld) : Type 0 where
  pub outcome : answer ≡ (pool_step old step).outcome
  pub state : new ≡ (pool_step old step).state

-- the outcomes of these steps in this world
abbrev pub outcomes_of : PoolWorld → List PoolStep → List PoolOutcome
outcomes_of world steps = histories.outcomes_of (histories.pool_history world steps)

-- `answer` has the outcomes of these steps in the world `old`, which becomes `new`. If memory ran
-- out, no step was taken.
pub record Replays {Z E : Type 0} (old : PoolWorld) (steps : List PoolStep) (answer : Result (Vec PoolOutcome Z) E)
    (new : PoolWorld) : Type 0 where
  pub outcomes : IfOk answer (λ found. found.items ≡ outcomes_of old steps)
  pub state : OnOk answer (new ≡ pool_after old steps)
  pub unchanged : OnErr answer (new ≡ old)
