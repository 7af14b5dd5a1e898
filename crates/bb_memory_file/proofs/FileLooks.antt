-- What a party has seen of the slots of queues is kept while it does more, and so is that it obeys their
-- rules, unless it moves a message.
use Rattle.bb_memory_file.proofs.FileEvents.{gets_on, has_none}
use Rattle.bb_memory_file.specs.FileCalls.{IsLookedUp, MovesNone, Whereabouts, has_some, moves_message}
use Rattle.bb_memory_file.specs.FileCalls.whereabouts as whereabouts
use Rattle.bb_memory_file.specs.FileLog.{EmptySlot, Event, ExchangeFlag, ExchangeSlot, FileLog, LoadEntry, LoadFlag, LoadLife, LoadSlot, MissFlag, MissSlot, StoreEntry, StoreFlag, StoreLife}
use Rattle.bb_memory_file.specs.FileNames.{DetachedBy, Free, HeldBy, SentTo, Slot}
use Rattle.bb_memory_file.specs.FileQueueLooks.{CanFill, EventObeys, EventsObey, KnowsHead, KnowsTail, Look, Position}
use Rattle.bb_memory_file_machine.specs.FileQueues.{FileQueue, IsMoment, earlier}
use Rattle.std.proofs.Common.{Bool, List, [], ap, false, refl, true, ℕ, ◌++◌, ◌∷◌, ◌≡◌}
use Rattle.std.specs.Prelude.{if◌then◌else◌}

-- LOOKS

pub moment_on : {X : Type 0} (moment list more : List X) → IsMoment moment list → IsMoment moment (more ++ list)
moment_on moment list [] past = past
moment_on moment list (item ∷ more) past = earlier item (more ++ list) (moment_on moment list more past)

module _ (events more : List Event) where
  abbrev pub look_on : (slot : ℕ) (word : Slot) → Look events slot word → Look (more ++ events) slot word
  look_on slot word look = record {
    event = look.event;
    before = look.before;
    past = moment_on (look.event ∷ look.before) events more look.past;
    shows = look.shows;
  }

  pub fill_on : (queue : FileQueue) (slot lap : ℕ) → CanFill queue events slot lap → CanFill queue (more ++ events) slot lap
  fill_on queue slot lap can = record {
    word = can.word;
    look = look_on _ can.word can.look;
    filled = can.filled;
  }

  pub tail_on : (queue : FileQueue) (position : Position) → KnowsTail queue events position →
      KnowsTail queue (more ++ events) position
  tail_on queue position knows = (knows.0, fill_on queue position.slot position.lap knows.1)

  pub head_on : (queue : FileQueue) (position : Position) → KnowsHead queue events position →
      KnowsHead queue (more ++ events) position
  head_on queue position knows = (
    knows.0,
    (λ other its. let over = knows.1 other its in (over.0, look_on other over.0 over.1, over.2)),
  )

-- RULES

-- an event that moves no message obeys any rules
still_obeys : (party : ℕ) (queue : FileQueue) (events : List Event) (event : Event) → moves_message event ≡ false →
    EventObeys party queue events event
still_obeys party queue events (LoadFlag bucket found) still = tt
still_obeys party queue events (ExchangeFlag bucket Free to) still = tt
still_obeys party queue events (ExchangeFlag bucket (HeldBy other) to) still = tt
still_obeys party queue events (ExchangeFlag bucket (DetachedBy other) to) still = tt
still_obeys party queue events (ExchangeFlag bucket (SentTo slot lap) to) still = absurd (cc)
still_obeys party queue events (MissFlag bucket from) still = tt
still_obeys party queue events (StoreFlag bucket to) still = tt
still_obeys party queue events (LoadEntry bucket found) still = tt
still_obeys party queue events (StoreEntry bucket to) still = tt
still_obeys party queue events (LoadSlot slot found) still = tt
still_obeys party queue events (ExchangeSlot slot from to) still = absurd (cc)
still_obeys party queue events (MissSlot slot from) still = tt
still_obeys party queue events (EmptySlot slot next) still = absurd (cc)
still_obeys party queue events (LoadLife found) still = tt
still_obeys party queue events (StoreLife to) still = tt

module _ (party : ℕ) (queue : FileQueue) (events : List Event) where
  pub obey_on : (more : List Event) → has_some moves_message more ≡ false → EventsObey party queue events →
      EventsObey party queue (more ++ events)
  obey_on [] none obey = obey
  obey_on (event ∷ more) none obey = obey_by event more (moves_message event) refl none (λ rest. obey_on more rest obey)
    where
      obey_by : (event : Event) (more : List Event) (moves : Bool) → moves_message event ≡ moves →
          (if moves then true else has_some moves_message more) ≡ false →
          (has_some moves_message more ≡ false → EventsObey party queue (more ++ events)) →
          EventsObey party queue (event ∷ more ++ events)
      obey_by event more true e none rest = absurd (cc)
      obey_by event more false e none rest = (still_obeys party queue (more ++ events) event e, rest none)

-- CALLS

-- one call after another
pub moves_none_on : (old middle new : FileLog) → MovesNone old middle → MovesNone middle new → MovesNone old new
moves_none_on old middle new one two = (
  two.0 ++ one.0,
  gets_on old middle new one.0 two.0 one.1 two.1,
  has_none moves_message one.0 two.0 one.2 two.2,
)

-- looks at where a bucket is move no message
pub looks_move_none : (bucket : ℕ) (answer : Whereabouts) (looks : List Event) → IsLookedUp bucket answer looks →
    has_some moves_message looks ≡ false
looks_move_none bucket (whereabouts.In slot lap) looks (length, is) = ap (has_some moves_message) is
looks_move_none bucket whereabouts.Entered looks (slot, length, word, is, seen) = ap (has_some moves_message) is
looks_move_none bucket whereabouts.Nowhere looks is = ap (has_some moves_message) is
