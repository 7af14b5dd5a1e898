-- The operations on the words of a file as steps of the machine: what a process does to the file by
-- the events of its log is what the machine's process does by its steps.
pub use Rattle.bb_memory_file.specs.FileLog.{EmptySlot, Event, ExchangeFlag, ExchangeSlot, FileLog, Has, HasNot, Holds, Known, LoadEntry, LoadFlag, LoadLife, LoadSlot, MissFlag, MissSlot, Seen, StoreEntry, StoreFlag, StoreLife, Unknown, Unseen, known_of, life_by, told}
use Rattle.bb_memory_file.specs.FileNames.{Empty, Entry, FileStep, Message, Place, Refused}
use Rattle.bb_memory_file_machine.specs.FileLaws.{IsEntry, IsFlag, IsHolder, IsIn, IsLife, IsLock, IsSlot}
use Rattle.bb_memory_file_machine.specs.FileMachine.{FileMove, FileWords, is_flag, move_at, process_of, with_entry, with_flag, with_life, with_slot}
use Rattle.std.specs.Prelude.{List, None, Option, Some, [], false, length, ℕ, ◌∷◌, ◌≡◌, ◌≢◌}

-- EVENTS

-- the words are such that this event of the party finds what it found
abbrev pub Finds : FileWords → ℕ → Event → Type 0
Finds words party (LoadFlag bucket found) = IsFlag words bucket found
Finds words party (ExchangeFlag bucket from to) = IsFlag words bucket from
Finds words party (MissFlag bucket from) = is_flag words bucket from ≡ false
Finds words party (LoadEntry bucket found) = IsEntry words bucket found
Finds words party (LoadSlot slot found) = IsSlot words slot found
Finds words party (ExchangeSlot slot from to) = IsSlot words slot from
Finds words party (MissSlot slot from) = ¬ IsSlot words slot from
Finds words party (LoadLife found) = IsLife words party found
Finds words party event = Unit {0}

-- the words that the event leaves
abbrev pub left_by : FileWords → ℕ → Event → FileWords
left_by words party (ExchangeFlag bucket from to) = with_flag words bucket to
left_by words party (StoreFlag bucket to) = with_flag words bucket to
left_by words party (StoreEntry bucket to) = with_entry words bucket to
left_by words party (ExchangeSlot slot from to) = with_slot words slot to
left_by words party (EmptySlot slot next) = with_slot words slot (Empty next)
left_by words party (StoreLife to) = with_life words party to
left_by words party event = words

-- the event changes no word
abbrev pub ChangesNone : Event → Type 0
ChangesNone (ExchangeFlag bucket from to) = ⊥
ChangesNone (StoreFlag bucket to) = ⊥
ChangesNone (StoreEntry bucket to) = ⊥
ChangesNone (ExchangeSlot slot from to) = ⊥
ChangesNone (EmptySlot slot next) = ⊥
ChangesNone (StoreLife to) = ⊥
ChangesNone event = Unit {0}

-- WHAT IS KNOWN IS SO

-- the slots are as the party has seen them
abbrev pub IsSeen : FileWords → ℕ → Seen → Type 0
IsSeen words bucket Unseen = Unit {0}
IsSeen words bucket (Has slot lap) = IsSlot words slot (Message lap bucket)
IsSeen words bucket (HasNot slot) = ¬ IsIn words bucket slot

-- the bucket's entry is this one, if it is known
abbrev pub IsEntryIf : FileWords → ℕ → Option Entry → Type 0
IsEntryIf words bucket None = Unit {0}
IsEntryIf words bucket (Some entry) = IsEntry words bucket entry

-- the words are as the party knows them
abbrev pub IsKnown : FileWords → ℕ → ℕ → Known → Type 0
IsKnown words party bucket Unknown = Unit {0}
IsKnown words party bucket (Holds entry seen) =
    IsHolder words bucket party × IsEntryIf words bucket entry × IsSeen words bucket seen

-- the party's life is this one, if it is known
abbrev pub IsLifeIf : FileWords → ℕ → Option ℕ → Type 0
IsLifeIf words party None = Unit {0}
IsLifeIf words party (Some life) = IsLife words party life

-- Before its next event the process may find the file with these words: they have the file's figures,
-- the process has the lock of its party, and they are as the party knows them.
pub record MayBe (log : FileLog) (process : ℕ) (words : FileWords) : Type 0 where
  pub buckets : length words.flags ≡ log.scene.buckets
  pub lock : IsLock words log.party process
  pub known : (bucket : ℕ) → IsKnown words log.party bucket (known_of log bucket)
  pub life : IsLifeIf words log.party (life_by log.events)

-- STEPS

-- the move is one that the machine allows, leaves these words, and brings its process there
pub record Brings (move : FileMove) (after : FileWords) (there : Place) : Type 0 where
  pub allowed : move.outcome ≢ Refused
  pub words : move.words ≡ after
  pub place : move.place ≡ there

-- Whatever the words are when the event finds what it found, it does to the file what this step of the
-- machine does.
abbrev pub IsStep : FileLog → ℕ → Place → Event → FileStep → Place → Type 0
IsStep log process here event step there =
    (words : FileWords) → MayBe log process words → Finds words log.party event →
    Brings (move_at words here step) (left_by words log.party event) there

-- Whatever the words are, this step of the machine is allowed and changes no word, so no event is
-- needed for it.
abbrev pub IsSilent : FileLog → ℕ → Place → FileStep → Place → Type 0
IsSilent log process here step there =
    (words : FileWords) → MayBe log process words → Brings (move_at words here step) words there

-- By the events that its log gets, the process takes these steps of the machine, the last first, from
-- the place `from` to the place at the end. Each event that changes a word is such a step, and an event
-- that changes none may be one.
pub data Path (process : ℕ) (before : FileLog) (from : Place) : FileLog → List FileStep → Place → Type 0 where
  begins : Path process before from before [] from
  looks : (log : FileLog) (taken : List FileStep) (here : Place) (event : Event) →
      Path process before from log taken here → ChangesNone event → Path process before from (told log event) taken here
  steps : (log : FileLog) (taken : List FileStep) (here : Place) (event : Event) (step : FileStep) (there : Place) →
      Path process before from log taken here → process_of step ≡ process → IsStep log process here event step there →
      Path process before from (told log event) (step ∷ taken) there
  moves : (log : FileLog) (taken : List FileStep) (here : Place) (step : FileStep) (there : Place) →
      Path process before from log taken here → process_of step ≡ process → IsSilent log process here step there →
      Path process before from log (step ∷ taken) there

-- The events that the log gets are these steps of the process, from one place to another. The log stays
-- that of this party of this file.
pub record IsWalk (process : ℕ) (old : FileLog) (from : Place) (new : FileLog) (taken : List FileStep)
    (there : Place) : Type 0 where
  pub path : Path process old from new taken there
  pub scene : new.scene ≡ old.scene
  pub party : new.party ≡ old.party
