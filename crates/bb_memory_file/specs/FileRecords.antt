-- What the recorded operations of all hands have to do with the acts of processes on a file.
--
-- Whoever takes a number's lock gets a hand of its own, and is a process with the number of the hand. So
-- is whoever only looks at the words: its hand is that of a table, and has no party's number.
use Rattle.bb_memory_file.specs.FileFormat.{IsGeometry, LifeOf, Part, event_of, part_at}
use Rattle.bb_memory_file.specs.FileNames.{FileStep, Outside, Place}
use Rattle.bb_memory_file.specs.FileOperations.{AreLooks, AreMade}
use Rattle.bb_memory_file.specs.FileParties.{log_by}
use Rattle.bb_memory_file.specs.FileRows.{Says}
use Rattle.bb_memory_file.specs.FileRuns.{Act, AreTrue, Dies, Frees, IsMachines, IsTrue, Life, Locks, Operates, Unlocks, actor, acts_of, own, words_after}
use Rattle.bb_memory_file.specs.Recorded.{AllFound, Run, WordEvent, of_hand, word_of}
use Rattle.bb_memory_file.specs.Recorded as row
use Rattle.bb_memory_file.specs.declared.geometry.FileGeometry.{FileGeometry}
use Rattle.bb_memory_file_machine.specs.FileMachine.{FileScene, FileWords, left_by, opening_state}
use Rattle.std.specs.Prelude.{Bool, List, None, Option, Some, [], false, if◌then◌else◌, length, map, true, ℕ, ◌<◌, ◌∷◌, ◌≡◌}

-- the act is an operation on a word
abbrev pub is_operation : Act → Bool
is_operation (Operates process party event) = true
is_operation act = false

-- the party as which a hand makes this operation: the one whose number it has, otherwise the one at whose
-- life it looks
abbrev pub party_at : Part → ℕ
party_at (LifeOf party) = party
party_at part = 0

abbrev pub party_by : FileGeometry → Option ℕ → WordEvent → ℕ
party_by geometry (Some party) operation = party
party_by geometry None operation = party_at (part_at geometry (word_of operation))

-- the act that an operation of a hand is
abbrev pub act_by : FileGeometry → ℕ → Option ℕ → WordEvent → Act
act_by geometry hand by operation = Operates hand (party_by geometry by operation) (event_of geometry operation)

-- the acts that the operations of a hand are: those that the log of its party tells, or looks
abbrev pub acts_by : FileGeometry → ℕ → Option ℕ → List WordEvent → List Act
acts_by geometry hand (Some party) operations = acts_of hand (log_by geometry party operations)
acts_by geometry hand None operations = map (act_by geometry hand None) operations

-- the operations of a hand are those that a party of its number makes, or looks
abbrev pub AreBy : FileGeometry → Option ℕ → List WordEvent → Type 0
AreBy geometry (Some party) operations = (party < geometry.parties) × AreMade geometry party operations
AreBy geometry None operations = AreLooks geometry operations

-- the operations among these acts
abbrev pub operations_in : List Act → List Act
operations_in [] = []
operations_in (act ∷ acts) = if is_operation act then act ∷ operations_in acts else operations_in acts

-- The acts are the operations of this run, in their order, with acts on locks between them. Each
-- operation is by the process and the party of its hand. Only a process with a party's number acts on
-- locks.
pub data Tells (geometry : FileGeometry) (parties : ℕ → Option ℕ) : Run → List Act → Type 0 where
  nothing : Tells geometry parties [] []
  operates : (run : Run) (acts : List Act) (hand : ℕ) (operation : WordEvent) → Tells geometry parties run acts →
      Tells geometry parties ((hand, operation) ∷ run) (act_by geometry hand (parties hand) operation ∷ acts)
  changes_lock : (run : Run) (acts : List Act) (act : Act) (party : ℕ) → Tells geometry parties run acts →
      is_operation act ≡ false → parties (actor act) ≡ Some party → Tells geometry parties run (act ∷ acts)

-- in these words an act on a lock finds what it found
abbrev pub IsKept : FileWords → Act → Type 0
IsKept words (Operates process party event) = Unit {0}
IsKept words (Locks process party) = IsTrue words (Locks process party)
IsKept words (Unlocks process party) = Unit {0}
IsKept words (Dies process) = Unit {0}
IsKept words (Frees process party) = IsTrue words (Frees process party)

-- each of these acts is one of a process of the scene, and each on a lock found what it found
abbrev pub AreKept : FileScene → List Act → Type 0
AreKept scene [] = Unit {0}
AreKept scene (act ∷ acts) = (actor act < scene.processes) × IsKept (words_after scene acts) act × AreKept scene acts

-- The words of a file began as those of a new file, and this run of recorded operations changed them.
-- These acts tell of the run. The operations of each hand are those that a party of its number makes, or
-- looks.
pub record IsRecord (geometry : FileGeometry) (scene : FileScene) (parties : ℕ → Option ℕ) (start : List ℕ) (run : Run)
    (acts : List Act) : Type 0 where
  pub geometry_is : IsGeometry geometry (length start)
  pub start_is : Says geometry start (opening_state scene).words
  pub found : AllFound start run
  pub made : (hand : ℕ) → AreBy geometry (parties hand) (of_hand hand run)
  pub tells : Tells geometry parties run acts
  pub kept : AreKept scene acts

-- Each act was true when it was done, and the row says the words that the acts leave. The operations
-- of each process are those that the log of its party tells, or looks.
pub record IsTold (geometry : FileGeometry) (scene : FileScene) (parties : ℕ → Option ℕ) (start : List ℕ) (run : Run)
    (acts : List Act) : Type 0 where
  pub true : AreTrue scene acts
  pub says : Says geometry (row.words_after start run) (words_after scene acts)
  pub logs : (hand : ℕ) → operations_in (own hand acts) ≡ acts_by geometry hand (parties hand) (of_hand hand run)

-- The acts of each process with a party's number are its life, which has brought it to its place by these
-- steps. A process that only looks has taken no step, and is at no place of the machine.
pub record AreLives (scene : FileScene) (parties : ℕ → Option ℕ) (acts : List Act) (taken : ℕ → List FileStep) (places : ℕ → Place)
    : Type 0 where
  pub lives : (process party : ℕ) → parties process ≡ Some party →
      Life scene process (own process acts) (taken process) (places process)
  pub looks : (process : ℕ) → parties process ≡ None → (taken process ≡ []) × (places process ≡ Outside)

-- Some steps of the machine are what the run did to the file: the row says the words that they leave.
pub record IsMachinesRow (geometry : FileGeometry) (scene : FileScene) (start : List ℕ) (run : Run) (acts : List Act)
    (taken : ℕ → List FileStep) (places : ℕ → Place) : Type 0 where
  pub machine : IsMachines scene acts taken places
  pub says : Says geometry (row.words_after start run) (left_by scene machine.steps).words
