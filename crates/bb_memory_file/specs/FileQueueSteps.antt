-- What the parts of the calls on the queues of a file promise.
use Rattle.bb_memory_file.specs.FileCalls.{unseen}
use Rattle.bb_memory_file.specs.FileCode.{FileLog, LoadFlag, LoadSlot, known_of, told}
use Rattle.bb_memory_file.specs.FileLog.{Event, IsLap, lap_in}
use Rattle.bb_memory_file.specs.FileNames.{Empty, Message, SentTo, Slot}
use Rattle.bb_memory_file.specs.FileQueueCalls.{Happens, IsOver, IsStray, IsWrong, Looks, Loses, Note, Passes, SeesLast, Taken, Undone, Unheld, noted_after}
use Rattle.bb_memory_file.specs.FileQueueLooks.{CanPass, KnowsHead, KnowsTail, Look, Position, ShowsUnsent, last_lap, position_after, position_on}
pub use Rattle.bb_memory_file.specs.declared.queues.Looked.{Looked}
pub use Rattle.bb_memory_file.specs.declared.queues.Looked.TheVariants as look
pub use Rattle.bb_memory_file.specs.declared.queues.Oldest.{Oldest}
pub use Rattle.bb_memory_file.specs.declared.queues.Oldest.TheVariants as oldest
pub use Rattle.bb_memory_file.specs.declared.queues.Stop.{Stop}
pub use Rattle.bb_memory_file.specs.declared.queues.Walked.{Walked}
pub use Rattle.bb_memory_file.specs.declared.queues.Walked.TheVariants as walked
use Rattle.bb_memory_file_machine.specs.FileQueues.{FileQueue, IsFilled, IsMoment, lap_before, lap_said, slot_before}
use Rattle.std.specs.Prelude.{List, None, Option, Some, slice_get, ℕ, ◌+◌, ◌<◌, ◌^◌, ◌∷◌, ◌≡◌, ◌≢◌, ◌≤◌, ◌⊎◌}

-- of each bucket the party knows what it knew, apart from looks at slots
abbrev pub KnowsSame : FileLog → FileLog → Type 0
KnowsSame old new = (bucket : ℕ) → unseen (known_of new bucket) ≡ unseen (known_of old bucket)

-- A walk over slots that pass the test has come to this position, and has found this word there: one that
-- doesn't pass, or it has come round.
abbrev pub StopsAt : (ℕ → Slot → Type 0) → FileQueue → FileLog → Position → Stop → FileLog → Type 0
StopsAt test queue old from stop new =
    (count : ℕ) × (before : FileLog) × (count ≤ queue.depth) × Passes test queue old from count before stop.position
    × (new ≡ told before (LoadSlot stop.position.slot stop.word)) × IsLap (lap_in stop.word)
    × ((¬ test stop.position.lap stop.word) ⊎ (count ≡ queue.depth))

-- SENDERS

-- A sender has its turn at the lap: the slot with this word is empty at the lap, or has the message of the
-- lap before.
abbrev pub IsTurn : ℕ → Slot → Type 0
IsTurn lap word = (word ≡ Empty lap) ⊎ ((bucket : ℕ) × (word ≡ Message (last_lap lap) bucket))

-- since the first moment the party has seen that the slot before this position is filled
abbrev pub SeesBefore : FileQueue → List Event → List Event → Position → Type 0
SeesBefore queue old new position =
    (last : Slot) × Happens old new (LoadSlot (slot_before queue position.slot) last)
    × IsFilled (lap_before position.lap position.slot (slot_before queue position.slot)) last

-- the sender has passed each slot of the queue once, and this one twice
abbrev pub ComesRound : FileQueue → FileLog → Position → FileLog → Type 0
ComesRound queue old position new =
    (middle : FileLog) × (from : Position) × Looks old middle × KnowsTail queue middle.events from
    × SeesLast queue old.events middle.events from
    × Passes IsFilled queue middle from (queue.depth + 1) new (position_after queue position)

-- The sender has come to this position and has found this word, by which it is its turn. Or it has begun
-- anew: if the slot is filled, so was each other one.
abbrev pub FindsTurn : FileQueue → FileLog → Stop → FileLog → Type 0
FindsTurn queue old stop new =
    (before : FileLog) × Looks old before × KnowsTail queue before.events stop.position
    × (new ≡ told before (LoadSlot stop.position.slot stop.word))
    × (IsTurn stop.position.lap stop.word ⊎ (SeesBefore queue old.events before.events stop.position
    × (IsFilled stop.position.lap stop.word → ComesRound queue old stop.position new)))
    × IsLap (lap_in stop.word)

-- RECEIVERS

-- the receiver has come to this position, and has found a word of its lap
abbrev pub FindsOldest : FileQueue → FileLog → Oldest → FileLog → Type 0
FindsOldest queue old (oldest.At stop) new =
    (before : FileLog) × Looks old before × KnowsHead queue before.events stop.position
    × (new ≡ told before (LoadSlot stop.position.slot stop.word)) × (lap_said stop.word ≡ stop.position.lap)
FindsOldest queue old oldest.Wrong new = Looks old new × ((notes : List Note) → IsWrong notes queue old.events new.events)
FindsOldest queue old oldest.Overtaken new = Loses queue old (2 ^ 16) new

-- the receiver has found the slot whose lap comes first, or laps that are far from each other
abbrev pub FindsHead : FileQueue → FileLog → Option Position → FileLog → Type 0
FindsHead queue old None new = (notes : List Note) → IsWrong notes queue old.events new.events
FindsHead queue old (Some head) new =
    KnowsHead queue new.events head
    × ((first : Slot) × Happens old.events new.events (LoadSlot head.slot first) × (lap_said first ≡ head.lap))

-- from this position on the receiver may pass so many messages, by looks since the first moment
abbrev pub PassesOn : ℕ → FileQueue → Position → ℕ → List Event → List Event → Type 0
PassesOn party queue head count old new =
    (less : ℕ) → less < count → CanPass party new old (position_on queue head less).slot (position_on queue head less).lap

-- The receiver may pass the message that a slot has or had at this lap, if these are its notes, as it has
-- come to the moment.
pub data Passed (notes : List Note) (events moment : List Event) (slot lap : ℕ) : Type 0 where
  was_over : (word : Slot) → Look events slot word → IsOver lap word → Passed notes events moment slot lap
  was_unsent : (bucket : ℕ) (look : Look events slot (Message lap bucket)) (event : Event) (before : List Event) →
      IsMoment (look.event ∷ look.before) (event ∷ before) → IsMoment moment (event ∷ before) →
      IsMoment (event ∷ before) events → ShowsUnsent bucket slot lap event → Passed notes events moment slot lap
  was_held : (bucket : ℕ) → Look events slot (Message lap bucket) → slice_get notes bucket ≡ Some Undone →
      Passed notes events moment slot lap

-- what a look at a message has found
abbrev pub LooksAt : List Note → FileLog → Position → Slot → Looked → FileLog → Type 0
LooksAt notes old position word look.Unsent new = Passed notes new.events old.events position.slot position.lap
LooksAt notes old position word (look.Sent bucket) new =
    (word ≡ Message position.lap bucket) × (slice_get notes bucket ≡ Some Unheld)
    × (new ≡ told old (LoadFlag bucket (SentTo position.slot position.lap)))
LooksAt notes old position word look.Empty new = word ≡ Empty position.lap
LooksAt notes old position word look.Wrong new =
    (lap_said word ≢ position.lap) ⊎ ((bucket : ℕ) × (word ≡ Message position.lap bucket) × IsStray (slice_get notes bucket))

-- what a walk over the messages of a queue has found
abbrev pub Walks : ℕ → FileQueue → List Note → FileLog → Position → ℕ → Walked → FileLog → Type 0
Walks party queue notes old head slots (walked.Sent position bucket passed) new =
    (passed < slots) × (position ≡ position_on queue head passed) × (slice_get notes bucket ≡ Some Unheld) × Look new.events position.slot (Message position.lap bucket)
    × Happens old.events new.events (LoadFlag bucket (SentTo position.slot position.lap))
    × PassesOn party queue head passed old.events new.events
Walks party queue notes old head slots walked.Passed new = PassesOn party queue head slots old.events new.events
Walks party queue notes old head slots walked.End new =
    (count : ℕ) × (count < slots) × PassesOn party queue head count old.events new.events
    × Happens old.events new.events (LoadSlot (position_on queue head count).slot (Empty (position_on queue head count).lap))
Walks party queue notes old head slots walked.Wrong new =
    (count : ℕ) × (count < slots) × (word : Slot)
    × Happens old.events new.events (LoadSlot (position_on queue head count).slot word)
    × (((lap_said word ≢ (position_on queue head count).lap) × (¬ IsOver (position_on queue head count).lap word))
    ⊎ ((bucket : ℕ) × (word ≡ Message (position_on queue head count).lap bucket) × IsStray (slice_get notes bucket)))

-- The receiver has begun with this log. It has found the oldest message, or knows that the queue begins
-- there, and has only looked since.
abbrev pub HasBegun : FileQueue → FileLog → Position → FileLog → Type 0
HasBegun queue begun head old =
    Looks begun old × KnowsHead queue old.events head
    × ((bucket : ℕ) × Happens begun.events old.events (LoadSlot head.slot (Message head.lap bucket)))

-- the notes after one try
abbrev pub noted_if : List Note → Option Taken → List Note
noted_if notes None = notes
noted_if notes (Some taken) = noted_after notes taken
