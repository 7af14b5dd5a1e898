-- Runs in which each process obeys the rules of a queue by what it has seen itself.
--
-- The laps of a slot come round. So what a process has seen of a slot counts only until the slot has been
-- filled too many times since.
use Rattle.bb_memory_file.specs.FileLog.{Event, ExchangeFlag, ExchangeSlot, StoreFlag}
use Rattle.bb_memory_file.specs.FileNames.{Empty, FileStep, Fill, HeldBy, Kill, Message, Place, Release, SentTo}
use Rattle.bb_memory_file.specs.FileQueueLooks.{CanFill, CanPass, CanTake, EventObeys, EventsObey, held, over, unsent}
use Rattle.bb_memory_file.specs.FileRuns.{Act, Dies, Frees, IsRun, Locks, Operates, Unlocks, own, words_after}
use Rattle.bb_memory_file_machine.specs.FileMachine.{FileScene}
use Rattle.bb_memory_file_machine.specs.FileQueues.{FileQueue, IsMoment, IsSlotOf, fills, slot_before}
use Rattle.std.specs.Prelude.{Contains, List, [], ℕ, ◌+◌, ◌<◌, ◌^◌, ◌∷◌, ◌≡◌, ◌≢◌}

-- EVENTS

-- the events of acts, the last first
abbrev pub events_in : List Act → List Event
events_in [] = []
events_in (Operates process party event ∷ acts) = event ∷ events_in acts
events_in (act ∷ acts) = events_in acts

-- the events of one process, which its log tells
abbrev pub events_of : ℕ → List Act → List Event
events_of process acts = events_in (own process acts)

-- the events of each process that has taken a number's lock obey the rules of the queue
abbrev pub ProcessesObey : FileQueue → List Act → Type 0
ProcessesObey queue acts = (process party : ℕ) → Contains acts (Locks process party) →
    EventsObey party queue (events_of process acts)

-- WHAT A PROCESS RELIES ON

-- a test of looks: at a slot, by the last of these events
abbrev pub LookTest : Type 1
LookTest = ℕ → List Event → Type 0

-- the look by which a party may fill a slot passes the test
abbrev pub FillRelies : {queue : FileQueue} {events : List Event} {slot lap : ℕ} → LookTest →
    CanFill queue events slot lap → Type 0
FillRelies {queue = queue} {slot = slot} test can = test (slot_before queue slot) (can.look.event ∷ can.look.before)

-- the look by which a party may pass a slot's message passes the test
abbrev pub PassRelies : {party : ℕ} {events moment : List Event} {slot lap : ℕ} → LookTest →
    CanPass party events moment slot lap → Type 0
PassRelies {slot = slot} test (over word look later) = test slot (look.event ∷ look.before)
PassRelies {slot = slot} test (unsent bucket look event before since_look since_take past shows) =
    test slot (look.event ∷ look.before)
PassRelies {slot = slot} test (held bucket look holds) = test slot (look.event ∷ look.before)

-- the looks by which a party may take a message pass the test
abbrev pub TakeRelies : {party : ℕ} {queue : FileQueue} {events : List Event} {slot bucket lap : ℕ} → LookTest →
    CanTake party queue events slot bucket lap → Type 0
TakeRelies {queue = queue} {slot = slot} test can =
    test slot (can.look.event ∷ can.look.before)
    × ((other : ℕ) (its : IsSlotOf queue other) (apart : other ≢ slot) → PassRelies test (can.others other its apart))

-- the looks by which an event obeys the rules pass the test
abbrev pub EventRelies : (party : ℕ) (queue : FileQueue) (events : List Event) (event : Event) → LookTest →
    EventObeys party queue events event → Type 0
EventRelies party queue events (ExchangeSlot slot (Empty lap) (Message found bucket)) test obeys =
    (its : IsSlotOf queue slot) → FillRelies test (obeys its)
EventRelies party queue events (ExchangeFlag bucket (SentTo slot lap) (HeldBy other)) test obeys =
    (its : IsSlotOf queue slot) → TakeRelies test (obeys its)
EventRelies party queue events event test obeys = Unit {0}

-- RECENT LOOKS

-- When the process had made these events, and made the next one, its look at the slot by the last event
-- of `seen` was recent: the slot had been filled fewer than 2 ^ 29 times since. By then its laps haven't come
-- round.
abbrev pub IsRecent : FileScene → List Act → ℕ → List Event → LookTest
IsRecent scene acts process events slot seen =
    (from until : List Act) → IsMoment from until → IsMoment until acts → events_of process from ≡ seen →
    events_of process until ≡ events →
    fills (words_after scene) slot until < fills (words_after scene) slot from + 2 ^ 29

-- each look by which these events of a process obey the rules was recent when the process relied on it
abbrev pub LooksAreRecent : (party : ℕ) (queue : FileQueue) (acts : List Act) (process : ℕ) (events : List Event) →
    EventsObey party queue events → Type 0
LooksAreRecent party queue acts process [] obey = Unit {0}
LooksAreRecent party queue acts process (event ∷ events) obey =
    EventRelies party queue events event (IsRecent queue.scene acts process events) obey.0
    × LooksAreRecent party queue acts process events obey.1

-- each look by which the processes obey the rules was recent when they relied on it
abbrev pub AreRecent : (queue : FileQueue) (acts : List Act) → ProcessesObey queue acts → Type 0
AreRecent queue acts obey =
    (process party : ℕ) (locks : Contains acts (Locks process party)) →
    LooksAreRecent party queue acts process (events_of process acts) (obey process party locks)

-- A RUN BY THE RULES

-- the act comes in the run after this moment
pub record Comes (moment acts : List Act) (act : Act) : Type 0 where
  pub before : List Act
  pub since : IsMoment moment before
  pub until : IsMoment (act ∷ before) acts

-- the moment of the run that an act has led to
abbrev pub led_to : {moment acts : List Act} {act : Act} → Comes moment acts act → List Act
led_to {act = act} comes = act ∷ comes.before

-- A run whose processes obey the rules of a queue of this depth by recent looks. A process fills a slot of the
-- queue with a message, and is killed before it sends the message. Its lock is freed. Another process takes
-- the lock, settles the number, which sends the message, and frees the lock. A third process takes the message.
pub record GoesThrough (depth : ℕ) : Type 0 where
  pub queue : FileQueue
  pub depth_is : queue.depth ≡ depth
  pub acts : List Act
  pub taken : ℕ → List FileStep
  pub places : ℕ → Place
  pub run : IsRun queue.scene acts taken places
  pub obey : ProcessesObey queue acts
  pub recent : AreRecent queue acts obey
  pub slot : ℕ
  pub its : IsSlotOf queue slot
  pub lap : ℕ
  pub bucket : ℕ
  pub sender : ℕ
  pub number : ℕ
  pub posted : Comes [] acts (Operates sender number (ExchangeSlot slot (Empty lap) (Message lap bucket)))
  pub killed : Comes (led_to posted) acts (Dies sender)
  pub in_call : (steps : List FileStep) × (taken sender ≡ Release sender number ∷ Kill sender ∷ Fill sender lap ∷ steps)
  pub freed : Comes (led_to killed) acts (Frees sender number)
  pub settler : ℕ
  pub locked : Comes (led_to freed) acts (Locks settler number)
  pub sent : Comes (led_to locked) acts (Operates settler number (StoreFlag bucket (SentTo slot lap)))
  pub settled : Comes (led_to sent) acts (Unlocks settler number)
  pub receiver : ℕ
  pub party : ℕ
  pub received : Comes (led_to settled) acts (Operates receiver party (ExchangeFlag bucket (SentTo slot lap) (HeldBy party)))
  pub apart : (sender ≢ settler) × (sender ≢ receiver) × (settler ≢ receiver)
