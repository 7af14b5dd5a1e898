-- What the calls on the queues of a file promise.
use Rattle.bb_memory_file.specs.FileCalls.{Gets, IsAt, IsDone, IsLookedUp, IsReceive, Makes, Whereabouts, unseen}
use Rattle.bb_memory_file.specs.FileCalls.received as received
use Rattle.bb_memory_file.specs.FileCalls.whereabouts as whereabouts
use Rattle.bb_memory_file.specs.FileCode.{ChangesNone, Event, ExchangeSlot, FileLog, LoadFlag, LoadSlot, MissFlag, MissSlot, StoreEntry, StoreFlag, Unknown, known_of, told}
use Rattle.bb_memory_file.specs.FileLog.{is_clear}
use Rattle.bb_memory_file.specs.FileNames.{Empty, FileStep, Fill, In, Message, Next, Nowhere, Post, SentTo, Slot}
use Rattle.bb_memory_file.specs.FileQueueLooks.{CanFill, CanPass, CanTake, EventsObey, KnowsHead, KnowsTail, Position, last_lap, position_after, position_on}
pub use Rattle.bb_memory_file.specs.declared.joined.Note.{Note}
pub use Rattle.bb_memory_file.specs.declared.joined.Note.TheVariants.{Undone, Unheld}
pub use Rattle.bb_memory_file.specs.declared.joined.Taken.{Taken}
use Rattle.bb_memory_file.specs.declared.joined.Taken.TheVariants as taken
pub use Rattle.bb_memory_file.specs.declared.queues.Sending.{Sending}
pub use Rattle.bb_memory_file.specs.declared.queues.Sending.TheVariants.{Full, Overtaken, Sent}
use Rattle.bb_memory_file_machine.specs.FileQueues.{FileQueue, IsFilled, IsLater, IsMoment, IsSlotOf, lap_before, lap_said, slot_before}
use Rattle.std.specs.Prelude.{List, Option, Some, [], slice_get, slice_set, true, ℕ, ◌%◌, ◌+◌, ◌-◌, ◌<◌, ◌^◌, ◌∷◌, ◌≡◌, ◌≢◌, ◌≤◌, ◌⊎◌}

-- the party has done more since
abbrev pub Grows : FileLog → FileLog → Type 0
Grows old new = (events : List Event) × Gets old events new

-- the party's events obey the rules of each queue of this depth
abbrev pub AllObey : ℕ → FileLog → Type 0
AllObey depth log =
    (number : ℕ) → EventsObey log.party (record { scene = log.scene; number = number; depth = depth }) log.events

-- of each bucket but this one the party knows what it knew, apart from looks at slots
abbrev pub KnowsOthers : FileLog → ℕ → FileLog → Type 0
KnowsOthers old bucket new =
    (other : ℕ) → other ≢ bucket → unseen (known_of new other) ≡ unseen (known_of old other)

-- the party has only looked since
pub data Looks (old : FileLog) : FileLog → Type 0 where
  nothing : Looks old old
  looks : (log : FileLog) (event : Event) → Looks old log → ChangesNone event → Looks old (told log event)

-- the event is one of those since the moment
pub record Happens (moment events : List Event) (event : Event) : Type 0 where
  pub before : List Event
  pub since : IsMoment moment before
  pub until : IsMoment (event ∷ before) events

-- The party has looked at so many slots in a row, from one position on, and each of them has passed the
-- test, which is one of a lap and a word.
pub data Passes (test : ℕ → Slot → Type 0) (queue : FileQueue) (before : FileLog) (from : Position) : ℕ → FileLog → Position →
    Type 0 where
  stays : Passes test queue before from 0 before from
  moves_on : (count : ℕ) (log : FileLog) (position : Position) (word : Slot) → Passes test queue before from count log position →
      test position.lap word →
      Passes test queue before from (count + 1) (told log (LoadSlot position.slot word)) (position_after queue position)

-- SENDERS

-- a slot with this word was filled at this lap, and not since
abbrev pub IsLastFilled : ℕ → Slot → Type 0
IsLastFilled lap (Empty found) = lap ≡ last_lap found
IsLastFilled lap (Message found bucket) = lap ≡ found

-- since the first moment the party has seen that the slot before this position was filled, and not yet
-- filled again a round later
abbrev pub SeesLast : FileQueue → List Event → List Event → Position → Type 0
SeesLast queue old new position =
    (last : Slot) × Happens old new (LoadSlot (slot_before queue position.slot) last)
    × IsLastFilled (lap_before position.lap position.slot (slot_before queue position.slot)) last

-- the steps of a sender that has tried these slots, the last first, and found each of them filled by
-- another party just then
abbrev pub attempts : ℕ → ℕ → ℕ → ℕ → List ℕ → List FileStep
attempts process party bucket size [] = []
attempts process party bucket size (slot ∷ slots) =
    Next process ∷ Post process party slot bucket size ∷ attempts process party bucket size slots

-- The sender has tried these slots, the last first, and others were faster so often. Another party filled
-- the slot that it had found empty. Or it looked at each slot of the queue, and others filled each of them
-- meanwhile: also the one after which it had begun, a round later.
pub data Attempts (queue : FileQueue) (bucket size : ℕ) (old : FileLog) : List ℕ → ℕ → FileLog → Type 0 where
  untried : Attempts queue bucket size old [] 0 old
  sought : (tried : List ℕ) (count : ℕ) (log new : FileLog) → Attempts queue bucket size old tried count log → Looks log new →
      Attempts queue bucket size old tried count new
  missed : (tried : List ℕ) (count : ℕ) (log : FileLog) (position : Position) → Attempts queue bucket size old tried count log →
      KnowsTail queue log.events position →
      Attempts queue bucket size old (position.slot ∷ tried) (count + 1) (record log {
        events = StoreEntry bucket Nowhere ∷ MissSlot position.slot (Empty position.lap)
            ∷ StoreEntry bucket (In position.slot size) ∷ LoadSlot position.slot (Empty position.lap) ∷ log.events;
      })
  passed : (tried : List ℕ) (count : ℕ) (log before : FileLog) (from : Position) (new : FileLog) (to : Position) →
      Attempts queue bucket size old tried count log → Looks log before → KnowsTail queue before.events from →
      SeesLast queue log.events before.events from → Passes IsFilled queue before from (queue.depth + 1) new to →
      Attempts queue bucket size old tried (count + 1) new

-- A sender that has come to this position has found this word, by which the queue is full: the message of
-- the lap before, or a word that no slot has there, as the sender has just found that the slot before is
-- filled.
abbrev pub IsFull : FileLog → FileQueue → FileLog → Position → Slot → Type 0
IsFull old queue before position word =
    ((bucket : ℕ) × (word ≡ Message (last_lap position.lap) bucket))
    ⊎ ((¬ IsFilled position.lap word) × (word ≢ Empty position.lap)
    × ((last : Slot) × Happens old.events before.events (LoadSlot (slot_before queue position.slot) last)
    × IsFilled (lap_before position.lap position.slot (slot_before queue position.slot)) last))

-- What a sender did with a message of `size` bytes, by its answer, if it tries so many times. It has posted
-- the message into a slot that it may fill. Or the slot whose turn it is is full. Or others were faster
-- each time.
abbrev pub SendsBy : ℕ → ℕ → FileLog → FileQueue → ℕ → ℕ → Sending → FileLog → Type 0
SendsBy most process old queue bucket size (Sent slot) new =
    (tried : List ℕ) × (count : ℕ) × (lap : ℕ) × (before : FileLog) × Attempts queue bucket size old tried count before
    × (count < most) × IsSlotOf queue slot × CanFill queue before.events slot lap
    × Gets before (StoreFlag bucket (SentTo slot lap) ∷ ExchangeSlot slot (Empty lap) (Message lap bucket)
    ∷ StoreEntry bucket (In slot size) ∷ []) new
    × Makes process old (Next process ∷ Fill process lap ∷ Post process old.party slot bucket size
    ∷ attempts process old.party bucket size tried) new
    × (known_of new bucket ≡ Unknown)
SendsBy most process old queue bucket size Full new =
    (tried : List ℕ) × (count : ℕ) × (position : Position) × (word : Slot) × (before : FileLog)
    × Attempts queue bucket size old tried count before × (count < most) × KnowsTail queue before.events position
    × Gets before (LoadSlot position.slot word ∷ []) new × IsFull old queue before position word
    × Makes process old (attempts process old.party bucket size tried) new
    × (is_clear (known_of new bucket) ≡ true)
SendsBy most process old queue bucket size Overtaken new =
    (tried : List ℕ) × Attempts queue bucket size old tried most new
    × Makes process old (attempts process old.party bucket size tried) new × (is_clear (known_of new bucket) ≡ true)

abbrev pub IsSend : ℕ → FileLog → FileQueue → ℕ → ℕ → Sending → FileLog → Type 0
IsSend process old queue bucket size sending new = SendsBy (2 ^ 16) process old queue bucket size sending new

-- RECEIVERS

-- the message that a slot has or had at this lap is over
abbrev pub IsOver : ℕ → Slot → Type 0
IsOver lap word = IsLater lap (lap_said word)

-- The receiver has looked since, and others were faster so often. They were done with each message of the
-- queue while it looked at them, although nobody was done with the first one when it began. Or it found that
-- a message is sent, and missed it. Or it could pass a message, found that a later one is sent, and then that
-- the one that it had passed is sent, too.
pub data Loses (queue : FileQueue) (old : FileLog) : ℕ → FileLog → Type 0 where
  unbeaten : Loses queue old 0 old
  searched : (count : ℕ) (log new : FileLog) → Loses queue old count log → Looks log new → Loses queue old count new
  overtaken : (count : ℕ) (log before : FileLog) (from : Position) (first : Slot) (new : FileLog) (to : Position) →
      Loses queue old count log → Looks log before → Happens log.events before.events (LoadSlot from.slot first) →
      lap_said first ≡ from.lap → KnowsHead queue before.events from →
      Passes IsOver queue before from (queue.depth + 1) new to → Loses queue old (count + 1) new
  beaten : (count : ℕ) (log before : FileLog) (slot lap bucket : ℕ) → Loses queue old count log → Looks log before →
      IsSlotOf queue slot → Happens log.events before.events (LoadFlag bucket (SentTo slot lap)) →
      Loses queue old (count + 1) (told before (MissFlag bucket (SentTo slot lap)))
  older : (count : ℕ) (log new : FileLog) (middle : List Event) (head : Position) (more less bucket other : ℕ) →
      Loses queue old count log → Looks log new → less < more → more < queue.depth →
      CanPass log.party middle log.events (position_on queue head less).slot (position_on queue head less).lap →
      Happens log.events middle
      (LoadFlag bucket (SentTo (position_on queue head more).slot (position_on queue head more).lap)) →
      Happens middle new.events
      (LoadFlag other (SentTo (position_on queue head less).slot (position_on queue head less).lap)) →
      Loses queue old (count + 1) new

-- From the oldest message on the receiver may pass each message that the queue holds, by what it has seen
-- since. It has come to an empty slot, or has passed all slots.
pub record NoneSent (party : ℕ) (queue : FileQueue) (old new : List Event) : Type 0 where
  pub head : Position
  pub bucket : ℕ
  pub first : KnowsHead queue new head
  pub message : Happens old new (LoadSlot head.slot (Message head.lap bucket))
  pub count : ℕ
  pub most : count ≤ queue.depth
  pub passed : (less : ℕ) → less < count →
      CanPass party new old (position_on queue head less).slot (position_on queue head less).lap
  pub end : (count ≡ queue.depth)
      ⊎ Happens old new (LoadSlot (position_on queue head count).slot (Empty (position_on queue head count).lap))

-- the laps of two slots of a queue are never so far from each other
abbrev pub IsFar : ℕ → ℕ → Type 0
IsFar lap other = 2 ^ 29 ≤ (other + 2 ^ 28 + (2 ^ 30 - lap)) % 2 ^ 30 + 1

-- a message that a receiver finds in a slot is none in a bucket with this note
abbrev pub IsStray : Option Note → Type 0
IsStray (Some Unheld) = ⊥
IsStray (Some Undone) = ⊥
IsStray _ = Unit {0}

-- The receiver has found words that a queue doesn't have. A slot was at this lap or at a later one, and
-- isn't any more: the receiver has just seen that the queue has come to the lap, or that the slot itself was
-- past the lap before. Or a slot has a message in no bucket of the file, or in one that the party holds in no
-- slot. Or the laps of two slots are far from each other.
pub data IsWrong (notes : List Note) (queue : FileQueue) (old new : List Event) : Type 0 where
  back : (head : Position) (count : ℕ) (first word : Slot) (before : List Event) → count < queue.depth →
      KnowsHead queue before head → Happens old before (LoadSlot head.slot first) → lap_said first ≡ head.lap →
      IsMoment before new →
      Happens before new (LoadSlot (position_on queue head count).slot word) →
      lap_said word ≢ (position_on queue head count).lap → ¬ IsOver (position_on queue head count).lap word →
      IsWrong notes queue old new
  round : (head : Position) (past word : Slot) (before : List Event) → IsSlotOf queue head.slot →
      Happens old before (LoadSlot head.slot past) → IsOver head.lap past →
      Happens before new (LoadSlot (position_on queue head queue.depth).slot word) →
      lap_said word ≢ (position_on queue head queue.depth).lap → ¬ IsOver (position_on queue head queue.depth).lap word →
      IsWrong notes queue old new
  stray : (slot lap bucket : ℕ) → IsSlotOf queue slot → Happens old new (LoadSlot slot (Message lap bucket)) →
      IsStray (slice_get notes bucket) → IsWrong notes queue old new
  far : (slot other : ℕ) (one two : Slot) → IsSlotOf queue slot → IsSlotOf queue other → Happens old new (LoadSlot slot one) →
      Happens old new (LoadSlot other two) → IsFar (lap_said one) (lap_said two) → IsWrong notes queue old new

-- What a receiver did, by its answer, if these are its notes. `size` is the size of a bucket in bytes. A
-- message in a bucket of the party's own is none that is sent.
abbrev pub IsReceipt : ℕ → FileLog → List Note → FileQueue → ℕ → Taken → FileLog → Type 0
IsReceipt process old notes queue size taken.Empty new =
    (position : Position) × (before : FileLog) × Grows old before × KnowsHead queue before.events position
    × Gets before (LoadSlot position.slot (Empty position.lap) ∷ []) new × Makes process old [] new
IsReceipt process old notes queue size (taken.Message bucket length) new =
    (slot : ℕ) × (lap : ℕ) × (before : FileLog) × Grows old before × Makes process old [] before
    × IsSlotOf queue slot × (slice_get notes bucket ≡ Some Unheld) × CanTake before.party queue before.events slot bucket lap
    × IsReceive process before slot lap bucket size (received.Message length) new
IsReceipt process old notes queue size taken.NotSent new =
    Makes process old [] new × (NoneSent old.party queue old.events new.events ⊎ Loses queue old (2 ^ 16) new)
IsReceipt process old notes queue size taken.Wrong new =
    (Makes process old [] new × IsWrong notes queue old.events new.events)
    ⊎ ((slot : ℕ) × (lap : ℕ) × (bucket : ℕ) × (before : FileLog) × Grows old before × Makes process old [] before
    × IsSlotOf queue slot × IsReceive process before slot lap bucket size received.Wrong new)

-- the notes of a party after this answer
abbrev pub noted_after : List Note → Taken → List Note
noted_after notes (taken.Message bucket length) = slice_set notes bucket Undone
noted_after notes taken = notes

-- DONE

-- if the bucket is in a slot, that is one of so many slots
abbrev pub IsSlotBelow : ℕ → Whereabouts → Type 0
IsSlotBelow slots (whereabouts.In slot lap) = slot < slots
IsSlotBelow slots found = Unit {0}

-- The call has found where the bucket is, and if a slot has it, has emptied the slot, which goes on with the
-- next lap.
abbrev pub IsDoneAt : ℕ → FileLog → ℕ → Whereabouts → FileLog → Type 0
IsDoneAt process old bucket (whereabouts.In slot lap) new =
    (slot < old.scene.slots) × ((before : FileLog) × (looks : List Event) × IsLookedUp bucket (whereabouts.In slot lap) looks
    × Gets old looks before × Makes process old [] before × IsDone process before slot bucket lap new)
    × (is_clear (known_of new bucket) ≡ true)
IsDoneAt process old bucket found new =
    Makes process old [] new × IsAt bucket found new × ((looks : List Event) × IsLookedUp bucket found looks × Gets old looks new)
