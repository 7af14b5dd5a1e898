-- Paths don't depend on the number of processes, nor do the rules of a queue.
use Rattle.bb_memory_file.specs.FileCode.{EmptySlot, Event, ExchangeFlag, ExchangeSlot, FileLog, MayBe, Path, begins, looks, moves, steps}
use Rattle.bb_memory_file.specs.FileNames.{Empty, FileStep, HeldBy, Message, Place, SentTo}
use Rattle.bb_memory_file.specs.FileParties.{among}
use Rattle.bb_memory_file.specs.FileQueueLooks.{EventObeys, EventsObey}
use Rattle.bb_memory_file_machine.specs.FileMachine.{FileScene, FileWords}
use Rattle.bb_memory_file_machine.specs.FileQueues.{FileQueue}
use Rattle.std.proofs.Common.{List, [], ℕ, ◌∷◌}

may_be : (processes process : ℕ) (log : FileLog) (words : FileWords) → MayBe (among processes log) process words →
    MayBe log process words
may_be processes process log words may =
    record { buckets = may.buckets; lock = may.lock; known = may.known; life = may.life }

module _ (processes process : ℕ) (before : FileLog) (from : Place) where
  pub path_among : (log : FileLog) (taken : List FileStep) (there : Place) → Path process before from log taken there →
      Path process (among processes before) from (among processes log) taken there
  path_among all every last begins = begins
  path_among all every last (looks log taken here event path none) =
      looks (among processes log) taken here event (path_among log taken here path) none
  path_among all every last (steps log taken here event step there path own is) =
      steps (among processes log) taken here event step there (path_among log taken here path) own
      (λ words may finds. is words (may_be processes process log words may) finds)
  path_among all every last (moves log taken here step there path own is) =
      moves (among processes log) taken here step there (path_among log taken here path) own
      (λ words may. is words (may_be processes process log words may))

-- RULES OF QUEUES

module _ (party : ℕ) (queue : FileQueue) (scene : FileScene) where
  event_obeys_in : (events : List Event) (event : Event) → EventObeys party queue events event →
      EventObeys party (record queue { scene = scene }) events event
  event_obeys_in events (ExchangeSlot slot (Empty lap) (Message found bucket)) obeys = λ its.
      let can = obeys its in record { word = can.word; look = can.look; filled = can.filled }
  event_obeys_in events (ExchangeFlag bucket (SentTo slot lap) (HeldBy other)) obeys = λ its.
      let can = obeys its in record { look = can.look; others = can.others }
  event_obeys_in events (ExchangeSlot slot (Message lap bucket) (Empty next)) obeys = obeys
  event_obeys_in events (EmptySlot slot next) obeys = obeys
  event_obeys_in events _ obeys = tt

  pub events_obey_in : (events : List Event) → EventsObey party queue events →
      EventsObey party (record queue { scene = scene }) events
  events_obey_in [] obey = tt
  events_obey_in (event ∷ events) obey = (event_obeys_in events event obey.0, events_obey_in events obey.1)
