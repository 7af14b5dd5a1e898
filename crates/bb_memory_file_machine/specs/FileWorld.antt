-- A file world: the machine of a pool in a file.
use Rattle.bb_memory_file_machine.specs.FileMachine.{Entry, FileFlag, FileMove, FileOutcome, FileState, FileStep, Place, Slot, file_after, file_step, outcomes_of}
use Rattle.std.specs.Prelude.{IfOk, List, OnErr, OnOk, Option, Result, length, ℕ, ◌<◌, ◌^◌, ◌≡◌}
use Rattle.std.specs.declared.vec.Vec.{Vec}

-- the value of a world: the state of its machine
abbrev pub FileWorld : Type 0
FileWorld = FileState

-- the world with these words and processes
abbrev pub world_of : List FileFlag → List Entry → List Slot → List ℕ → List (Option ℕ) → List Place → FileWorld
world_of flags entries slots lives locks places =
    record { words = record { flags = flags; entries = entries; slots = slots; lives = lives; locks = locks }; places = places }

-- the invariant of a world: each bucket has a number that a step can name
abbrev pub IsFileWorld : FileWorld → Type 0
IsFileWorld world = length world.words.flags < 2 ^ 32

-- `answer` is the outcome of this step in the world `old`, which becomes `new`
pub record Steps (old : FileWorld) (step : FileStep) (answer : FileOutcome) (new : FileWorld) : Type 0 where
  pub outcome : answer ≡ (file_step old step).outcome
  pub state : new ≡ (file_step old step).state

-- `answer` has the outcomes of these steps in the world `old`, which becomes `new`. If memory ran
-- out, no step was taken.
pub record Replays {Z E : Type 0} (old : FileWorld) (steps : List FileStep) (answer : Result (Vec FileOutcome Z) E)
    (new : FileWorld) : Type 0 where
  pub outcomes : IfOk answer (λ found. found.items ≡ outcomes_of old steps)
  pub state : OnOk answer (new ≡ file_after old steps)
  pub unchanged : OnErr answer (new ≡ old)

-- The move of a process in the world `old` has the outcome `answer`, and brings the process to the
-- place `there`. The world `new` has the words after the move; the new place isn't written there
-- yet.
pub record IsMove (old : FileWorld) (move : FileMove) (answer : FileOutcome) (there : Place) (new : FileWorld) : Type 0 where
  pub outcome : answer ≡ move.outcome
  pub place : there ≡ move.place
  pub words : new.words ≡ move.words
  pub places : new.places ≡ old.places
