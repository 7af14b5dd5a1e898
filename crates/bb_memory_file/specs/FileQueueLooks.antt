-- What a party has seen of the slots of a queue by its own operations, and which operations on them it
-- may make by that.
--
-- A party obeys the rules of a queue by what it has seen itself, and needs no word of the file for that.
use Rattle.bb_memory_file.specs.FileLog.{EmptySlot, Event, ExchangeFlag, ExchangeSlot, Has, Holds, IsLap, LoadFlag, LoadSlot, MissFlag, is_held, known_by}
use Rattle.bb_memory_file.specs.FileNames.{Empty, Entry, HeldBy, Message, SentTo, Slot}
pub use Rattle.bb_memory_file.specs.declared.queues.Position.{Position}
pub use Rattle.bb_memory_file.specs.declared.queues.Queue.{Queue}
use Rattle.bb_memory_file_machine.specs.FileMachine.{FileScene}
use Rattle.bb_memory_file_machine.specs.FileQueues.{FileQueue, IsFilled, IsLater, IsMoment, IsSlotOf, lap_before, lap_said, next_lap, slot_before}
use Rattle.std.specs.Prelude.{List, Option, [], if◌then◌else◌, nat_lt, suc, true, zero, ℕ, ◌%◌, ◌*◌, ◌+◌, ◌-◌, ◌^◌, ◌∷◌, ◌≡◌, ◌≢◌}

-- LOOKS

-- by this event the party sees that the slot has this word
abbrev pub Shows : ℕ → Slot → Event → Type 0
Shows slot word (LoadSlot other found) = (other ≡ slot) × (found ≡ word)
Shows slot word (ExchangeSlot other from to) = (other ≡ slot) × (to ≡ word)
Shows slot word (EmptySlot other next) = (other ≡ slot) × (Empty next ≡ word)
Shows slot word event = ⊥

-- the party has seen this word in the slot, by one of these events
pub record Look (events : List Event) (slot : ℕ) (word : Slot) : Type 0 where
  pub event : Event
  pub before : List Event
  pub past : IsMoment (event ∷ before) events
  pub shows : Shows slot word event

-- by this event the party sees that the bucket isn't sent to the slot at this lap
abbrev pub ShowsUnsent : ℕ → ℕ → ℕ → Event → Type 0
ShowsUnsent bucket slot lap (LoadFlag other found) = (other ≡ bucket) × (found ≢ SentTo slot lap)
ShowsUnsent bucket slot lap (MissFlag other from) = (other ≡ bucket) × (from ≡ SentTo slot lap)
ShowsUnsent bucket slot lap event = ⊥

-- WHAT A PARTY MAY DO BY THAT

-- The party may fill the slot at this lap: it has seen that the slot before was filled.
pub record CanFill (queue : FileQueue) (events : List Event) (slot lap : ℕ) : Type 0 where
  pub word : Slot
  pub look : Look events (slot_before queue slot) word
  pub filled : IsFilled (lap_before lap slot (slot_before queue slot)) word

-- The party may pass the message that a slot has or had at this lap, once it has come to `moment`. It
-- has seen the slot at a later lap. Or it has seen the message, and sees from `moment` on that the
-- bucket isn't sent, or holds the bucket itself.
pub data CanPass (party : ℕ) (events moment : List Event) (slot lap : ℕ) : Type 0 where
  over : (word : Slot) → Look events slot word → IsLater lap (lap_said word) → CanPass party events moment slot lap
  unsent : (bucket : ℕ) (look : Look events slot (Message lap bucket)) (event : Event) (before : List Event) →
      IsMoment (look.event ∷ look.before) (event ∷ before) → IsMoment moment (event ∷ before) →
      IsMoment (event ∷ before) events → ShowsUnsent bucket slot lap event → CanPass party events moment slot lap
  held : (bucket : ℕ) → Look events slot (Message lap bucket) → is_held (known_by party bucket events) ≡ true →
      CanPass party events moment slot lap

-- The party may take the message in this slot: it has seen the message there, and may pass each message
-- that comes before.
pub record CanTake (party : ℕ) (queue : FileQueue) (events : List Event) (slot bucket lap : ℕ) : Type 0 where
  pub look : Look events slot (Message lap bucket)
  pub others : (other : ℕ) → IsSlotOf queue other → other ≢ slot →
      CanPass party events (look.event ∷ look.before) other (lap_before lap slot other)

-- If the event fills, takes from or empties a slot of the queue, the party may do that by what it has
-- seen before. A slot goes on with the next lap.
abbrev pub EventObeys : ℕ → FileQueue → List Event → Event → Type 0
EventObeys party queue events (ExchangeSlot slot (Empty lap) (Message found bucket)) =
    IsSlotOf queue slot → CanFill queue events slot lap
EventObeys party queue events (ExchangeFlag bucket (SentTo slot lap) (HeldBy other)) =
    IsSlotOf queue slot → CanTake party queue events slot bucket lap
EventObeys party queue events (ExchangeSlot slot (Message lap bucket) (Empty next)) =
    IsSlotOf queue slot → next ≡ next_lap lap
EventObeys party queue events (EmptySlot slot next) =
    (bucket : ℕ) × (lap : ℕ) × (entry : Option Entry) × (known_by party bucket events ≡ Holds entry (Has slot lap))
    × (next ≡ next_lap lap)
EventObeys party queue events event = Unit {0}

-- each of these events obeys the rules of the queue, the last first
abbrev pub EventsObey : ℕ → FileQueue → List Event → Type 0
EventsObey party queue [] = Unit {0}
EventsObey party queue (event ∷ events) = EventObeys party queue events event × EventsObey party queue events

-- WHERE A PARTY GOES ON

-- the machine's queue of this file
abbrev pub queue_in : FileScene → Queue → FileQueue
queue_in scene queue = record { scene = scene; number = queue.number; depth = queue.depth }

-- the position is a slot of the queue, and a lap that it may have
abbrev pub IsPosition : FileQueue → Position → Type 0
IsPosition queue position = IsSlotOf queue position.slot × IsLap position.lap

-- the position after this one: of the next slot, or of the first one at the next lap
abbrev pub position_after : FileQueue → Position → Position
position_after queue position =
    if nat_lt (position.slot + 1) (queue.number * queue.depth + queue.depth)
    then record position { slot = position.slot + 1 }
    else record { slot = queue.number * queue.depth; lap = next_lap position.lap }

-- the position so many slots after this one
abbrev pub position_on : FileQueue → Position → ℕ → Position
position_on queue position zero = position
position_on queue position (suc count) = position_after queue (position_on queue position count)

-- a sender may fill the slot at this position, unless the slot is filled there already
abbrev pub KnowsTail : FileQueue → List Event → Position → Type 0
KnowsTail queue events position = IsPosition queue position × CanFill queue events position.slot position.lap

-- the lap before this one
abbrev pub last_lap : ℕ → ℕ
last_lap lap = (lap + (2 ^ 30 - 1)) % 2 ^ 30

-- The party has seen that each message before this position is over, up to that of the lap before in the
-- position's own slot.
abbrev pub KnowsHead : FileQueue → List Event → Position → Type 0
KnowsHead queue events position =
    IsPosition queue position × ((other : ℕ) → IsSlotOf queue other →
    (word : Slot) × Look events other word × IsLater (lap_before position.lap position.slot other) (lap_said word))
