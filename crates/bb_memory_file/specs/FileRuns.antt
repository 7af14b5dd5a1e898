-- Runs of any number of processes that share a file: what all of them did to its words and locks, in
-- one order.
--
-- Whoever takes a number's lock is a process of its own here, from then on until it frees the lock, or
-- is killed. So a program that joins with two numbers is two processes, and so is one that joins twice.
-- Whoever looks at the words without a lock is a process of its own, too.
use Rattle.bb_memory_file.specs.FileCode.{ChangesNone, Event, Finds, Path}
use Rattle.bb_memory_file.specs.FileCode as code
use Rattle.bb_memory_file.specs.FileLog.{FileLog, fresh_log}
use Rattle.bb_memory_file.specs.FileNames.{Counting, Dead, FileStep, Flags, Kill, Lock, Outside, Place, Refused, Release, Settled, Unlock}
use Rattle.bb_memory_file_machine.specs.FileLaws.{IsLock, IsPlace}
use Rattle.bb_memory_file_machine.specs.FileMachine.{FileScene, FileWords, left_by, opening_state, outcomes_of, process_of, with_lock}
use Rattle.bb_memory_file_machine.specs.FileQueues.{History, words_at}
use Rattle.std.specs.Prelude.{Contains, List, None, Some, [], if◌then◌else◌, map, reverse, slice_get, ℕ, ◌++◌, ◌<◌, ◌==◌, ◌∷◌, ◌≡◌, ◌⊎◌}

-- ACTS

-- What a process does to a file: it takes the lock of a party's number, makes an operation on a word by
-- this party, or frees the lock. It may be killed, after which the system frees the lock. A process with
-- no lock may look at a word: at a life, as the party whose life it is.
pub data Act : Type 0 where
  Locks : (process party : ℕ) → Act
  Operates : (process party : ℕ) → Event → Act
  Unlocks : (process party : ℕ) → Act
  Dies : (process : ℕ) → Act
  Frees : (process party : ℕ) → Act

-- the process that does it
abbrev pub actor : Act → ℕ
actor (Locks process party) = process
actor (Operates process party event) = process
actor (Unlocks process party) = process
actor (Dies process) = process
actor (Frees process party) = process

-- the words and locks after an act
abbrev pub acted : FileWords → Act → FileWords
acted words (Locks process party) = with_lock words party (Some process)
acted words (Operates process party event) = code.left_by words party event
acted words (Unlocks process party) = with_lock words party None
acted words (Dies process) = words
acted words (Frees process party) = with_lock words party None

-- the words and locks after these acts, the last first, from those of a new file
abbrev pub words_after : FileScene → List Act → FileWords
words_after scene [] = (opening_state scene).words
words_after scene (act ∷ acts) = acted (words_after scene acts) act

-- in these words the act finds what it found: a lock that is taken was free, and one that the system
-- frees was the process's
abbrev pub IsTrue : FileWords → Act → Type 0
IsTrue words (Locks process party) = slice_get words.locks party ≡ Some None
IsTrue words (Operates process party event) = Finds words party event
IsTrue words (Unlocks process party) = Unit {0}
IsTrue words (Dies process) = Unit {0}
IsTrue words (Frees process party) = IsLock words party process

-- each of these acts is one of a process of the scene, and is true when it is done
abbrev pub AreTrue : FileScene → List Act → Type 0
AreTrue scene [] = Unit {0}
AreTrue scene (act ∷ acts) = (actor act < scene.processes) × IsTrue (words_after scene acts) act × AreTrue scene acts

-- LIVES

-- the acts of one process
abbrev pub own : ℕ → List Act → List Act
own process [] = []
own process (act ∷ acts) = if actor act == process then act ∷ own process acts else own process acts

-- the acts that a log tells
abbrev pub acts_of : ℕ → FileLog → List Act
acts_of process log = map (λ event. Operates process log.party event) log.events

-- a process frees the lock of its number when the number is settled, or before it has settled a bucket
abbrev pub MayUnlock : ℕ → Place → Type 0
MayUnlock party place = (place ≡ Settled party) ⊎ (place ≡ Flags party 0)

-- by all that the party has done since its process has taken the number's lock, the process may free the
-- lock
abbrev pub CanUnlock : FileLog → Type 0
CanUnlock log = (process : ℕ) → (taken : List FileStep) × (here : Place)
    × Path process (fresh_log log.scene log.party) (Counting log.party) log taken here × MayUnlock log.party here

-- Whatever a process does, by these acts it has come to this place of the machine. All that it does
-- with the lock is a path of steps, broken off anywhere. A process that takes no lock only looks at
-- words, and takes no step by that.
pub data Life (scene : FileScene) (process : ℕ) : List Act → List FileStep → Place → Type 0 where
  sleeps : Life scene process [] [] Outside
  looks : (party : ℕ) (event : Event) (acts : List Act) → Life scene process acts [] Outside → ChangesNone event →
      Life scene process (Operates process party event ∷ acts) [] Outside
  works : (party : ℕ) (log : FileLog) (taken : List FileStep) (here : Place) →
      Path process (fresh_log scene party) (Counting party) log taken here →
      Life scene process (acts_of process log ++ Locks process party ∷ []) (taken ++ Lock process party ∷ []) here
  leaves : (party : ℕ) (acts : List Act) (taken : List FileStep) (here : Place) → Life scene process acts taken here →
      MayUnlock party here → Life scene process (Unlocks process party ∷ acts) (Unlock process ∷ taken) Outside
  dies : (acts : List Act) (taken : List FileStep) (here : Place) → Life scene process acts taken here →
      Life scene process (Dies process ∷ acts) (Kill process ∷ taken) Dead
  frees : (party : ℕ) (acts : List Act) (taken : List FileStep) → Life scene process acts taken Dead →
      Life scene process (Frees process party ∷ acts) (Release process party ∷ taken) Dead

-- A run: whatever the order of the acts of all processes, each found what it says, and the acts of each
-- process are its life, which has brought it to its place by these steps.
pub record IsRun (scene : FileScene) (acts : List Act) (taken : ℕ → List FileStep) (places : ℕ → Place) : Type 0 where
  pub true : AreTrue scene acts
  pub lives : (process : ℕ) → Life scene process (own process acts) (taken process) (places process)

-- the steps of one process, the last first, of steps in order
abbrev pub steps_of : ℕ → List FileStep → List FileStep
steps_of process [] = []
steps_of process (step ∷ steps) =
    if process_of step == process then steps_of process steps ++ step ∷ [] else steps_of process steps

-- The history takes the machine through the words of the run: after each act, the words and locks are
-- those after some step of the history, or an act that changes no word came between two steps.
pub data Follows (scene : FileScene) : List Act → History → Type 0 where
  opens : Follows scene [] []
  looks_on : (act : Act) (acts : List Act) (history : History) → Follows scene acts history →
      words_after scene (act ∷ acts) ≡ words_after scene acts → Follows scene (act ∷ acts) history
  steps_on : (act : Act) (acts : List Act) (history : History) (step : FileStep) → Follows scene acts history →
      words_at scene (step ∷ history) ≡ words_after scene (act ∷ acts) → Follows scene (act ∷ acts) (step ∷ history)
  moves_on : (acts : List Act) (history : History) (step : FileStep) → Follows scene acts history →
      words_at scene (step ∷ history) ≡ words_after scene acts → Follows scene acts (step ∷ history)

-- Some steps of the machine, from the opening, leave the words and locks that the run leaves, after each
-- of its acts and at the end, and bring each process to its place. None is refused, and those of each process are the steps of its life, in
-- order.
pub record IsMachines (scene : FileScene) (acts : List Act) (taken : ℕ → List FileStep) (places : ℕ → Place) : Type 0 where
  pub steps : List FileStep
  pub allowed : ¬ Contains (outcomes_of (opening_state scene) steps) Refused
  pub words : (left_by scene steps).words ≡ words_after scene acts
  pub follows : Follows scene acts (reverse steps)
  pub processes : (process : ℕ) → process < scene.processes → IsPlace (left_by scene steps) process (places process)
  pub own : (process : ℕ) → process < scene.processes → steps_of process steps ≡ taken process
