-- Words whose operations are all recorded: at any time they are what their beginning and some order of
-- the recorded operations give.
use Rattle.atomic_table.specs.Table.{Me, State, Step}
use Rattle.bb_memory_file.specs.declared.recorded.Hand.{Hand}
use Rattle.bb_memory_file.specs.declared.recorded.RecordedWords.{RecordedWords}
pub use Rattle.bb_memory_file.specs.declared.recorded.WordEvent.{WordEvent}
pub use Rattle.bb_memory_file.specs.declared.recorded.WordEvent.TheVariants.{Exchange, Load, Store}
use Rattle.std.specs.Prelude.{List, [], if◌then◌else◌, length, slice_index, slice_set, ℕ, ◌<◌, ◌==◌, ◌∷◌, ◌≡◌}
use lib.ListN.{get_elem?}
use mathlib.Core.Option.{some}

-- OPERATIONS

-- a load of this word found this
abbrev pub load_event : ℕ → ℕ → WordEvent
load_event word found = Load word found

-- an exchange of this word, from the first to the second, found the third
abbrev pub exchange_event : ℕ → ℕ → ℕ → ℕ → WordEvent
exchange_event word from to found = Exchange word from to found

-- a store stored this in this word
abbrev pub store_event : ℕ → ℕ → WordEvent
store_event word to = Store word to

-- the number of the word on which the operation is
abbrev pub word_of : WordEvent → ℕ
word_of (Load word found) = word
word_of (Exchange word from to found) = word
word_of (Store word to) = word

-- the words after an operation
abbrev pub written : List ℕ → WordEvent → List ℕ
written words (Load word found) = words
written words (Exchange word from to found) = if found == from then slice_set words word to else words
written words (Store word to) = slice_set words word to

-- in these words the operation finds what it found
abbrev pub IsFoundIn : List ℕ → WordEvent → Type 0
IsFoundIn words (Load word found) = slice_index words word ≡ found
IsFoundIn words (Exchange word from to found) = slice_index words word ≡ found
IsFoundIn words (Store word to) = Unit {0}

-- RUNS

-- the operations of all hands, the last first, each with the number of its hand
abbrev pub Run : Type 0
Run = List (ℕ × WordEvent)

-- the words after a run, from the words at its start
abbrev pub words_after : List ℕ → Run → List ℕ
words_after start [] = start
words_after start (entry ∷ run) = written (words_after start run) entry.1

-- each operation of the run found what its record says
abbrev pub AllFound : List ℕ → Run → Type 0
AllFound start [] = Unit {0}
AllFound start (entry ∷ run) = IsFoundIn (words_after start run) entry.1 × AllFound start run

-- the operations of one hand in a run
abbrev pub of_hand : ℕ → Run → List WordEvent
of_hand hand [] = []
of_hand hand (entry ∷ run) = if entry.0 == hand then entry.1 ∷ of_hand hand run else of_hand hand run

-- the number of each hand of the run is below this
abbrev pub AreBelow : ℕ → Run → Type 0
AreBelow hands [] = Unit {0}
AreBelow hands (entry ∷ run) = (entry.0 < hands) × AreBelow hands run

-- The words are what their beginning and a run give. The run has the record of each hand, in order,
-- and each of its operations found what the record says.
pub record IsRecorded (start : List ℕ) (state : State ℕ (List WordEvent)) : Type 0 where
  pub run : Run
  pub words : state.words ≡ words_after start run
  pub found : AllFound start run
  pub hands : AreBelow (length state.views) run
  pub records : (hand : ℕ) (log : List WordEvent) → get_elem? state.views hand ≡ some log → log ≡ of_hand hand run

-- STEPS

-- the hand's record has the load
abbrev pub loads : Step ℕ → Me ℕ (List WordEvent) → ℕ → Me ℕ (List WordEvent) → Type 0
loads step me found after = after ≡ (Load step.word found ∷ me.0, me.1)

-- the hand's record has the exchange
abbrev pub exchanges : Step ℕ → Me ℕ (List WordEvent) → ℕ → Me ℕ (List WordEvent) → Type 0
exchanges step me found after = after ≡ (Exchange step.word step.first step.second found ∷ me.0, me.1)

-- the hand's record has the store
abbrev pub stores : Step ℕ → Me ℕ (List WordEvent) → ℕ → Me ℕ (List WordEvent) → Type 0
stores step me new after = after ≡ (Store step.word step.first ∷ me.0, me.1)

-- the record of a new hand is empty
abbrev pub begins : Step ℕ → Me ℕ (List WordEvent) → ℕ → Me ℕ (List WordEvent) → Type 0
begins step me found after = after ≡ ([], [])

-- HANDS

-- the words as they were when they were made
abbrev pub beginning_of : RecordedWords → List ℕ
beginning_of words = words.table.shared.key.items

-- the hand is one of these words
abbrev pub IsHand : RecordedWords → Hand → Type 0
IsHand words hand = (hand.seat.table_id ≡ words.table.shared.table_id) × (hand.seat.me.1 ≡ [])

-- the operations of the hand, the last first
abbrev pub recorded : Hand → List WordEvent
recorded hand = hand.seat.me.0
