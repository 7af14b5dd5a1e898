-- Rules that differ from those of a queue at one kind of step, and how each loses the order.
use Rattle.bb_memory_file_machine.specs.FileLaws.{IsFlag}
use Rattle.bb_memory_file_machine.specs.FileMachine.{Empty, FileStep, Message, Receives, SentTo}
use Rattle.bb_memory_file_machine.specs.FileQueues.{FileQueue, HasHappened, HasSeen, History, IsMoment, IsSlotOf, MayFill, MayPass, Obey, Posted, Rules, lap_before, messages, outcome_after, posts, queue_rules, slot_before, state_after, words_at}
use Rattle.std.specs.Prelude.{Contains, [], ℕ, ◌<◌, ◌∷◌, ◌≡◌, ◌≢◌, ◌≤◌, ◌⊎◌}

-- POSTS

-- a sender fills a slot without a look at the slot before
abbrev pub fill_unlooked : Rules
fill_unlooked = record queue_rules { fill = λ queue history slot lap. Unit {0} }

-- a sender fills a slot once it has seen a message in the slot before, whatever its lap
abbrev pub fill_any_lap : Rules
fill_any_lap = record queue_rules {
  fill = λ queue history slot lap. MayFill (words_at queue.scene) queue history slot lap
      ⊎ ((found bucket : ℕ) × HasSeen (words_at queue.scene) history (slot_before queue slot) (Message found bucket));
}

-- TAKES

-- a receiver takes any message
abbrev pub take_any : Rules
take_any = record queue_rules { take = λ queue history slot bucket lap. Unit {0} }

-- a receiver passes a message that wasn't sent when it looked, however long before it saw the message
-- that it takes
abbrev pub take_unlooked : Rules
take_unlooked = record queue_rules {
  take = λ queue history slot bucket lap. HasSeen (words_at queue.scene) history slot (Message lap bucket)
      × ((other : ℕ) → IsSlotOf queue other → other ≢ slot → MayPass (words_at queue.scene) history [] other (lap_before lap slot other));
}

-- a receiver passes a slot in which it has found no message yet
abbrev pub take_past_empty : Rules
take_past_empty = record queue_rules {
  take = λ queue history slot bucket lap. (look : HasSeen (words_at queue.scene) history slot (Message lap bucket))
      × ((other : ℕ) → IsSlotOf queue other → other ≢ slot →
      MayPass (words_at queue.scene) history look.moment other (lap_before lap slot other)
      ⊎ HasSeen (words_at queue.scene) history other (Empty (lap_before lap slot other)));
}

-- DONE

-- a party that is done with a message lets the slot go on with any lap
abbrev pub empty_any_lap : Rules
empty_any_lap = record queue_rules { empty = λ queue history slot next. Unit {0} }

-- WHAT GOES WRONG

-- By some steps that obey the rules a party receives the younger of two messages of a queue. The older
-- one waited before the younger one was posted, and nobody has received it since.
pub record LosesOrder (rules : Rules) : Type 0 where
  pub queue : FileQueue
  pub positive : 0 < queue.depth
  pub history : History
  pub step : FileStep
  pub obey : Obey rules queue (step ∷ history)
  pub moment : History
  pub past : IsMoment moment history
  pub older : Posted
  pub was_held : Contains (messages queue moment) older
  pub waited : (slot : ℕ) × (lap : ℕ) × IsFlag (state_after queue.scene moment).words older.bucket (SentTo slot lap)
  pub younger : Posted
  pub later : posts queue moment ≤ younger.ticket
  pub held : Contains (messages queue history) younger
  pub received : (slot : ℕ) × (party : ℕ) × (outcome_after queue.scene history step ≡ Receives slot younger.bucket party)
  pub missed : (slot party : ℕ) → ¬ HasHappened queue.scene moment history (Receives slot older.bucket party)

-- Some steps obey the rules, by which more messages than the queue has slots were posted, and each was
-- received, and its slot emptied.
pub record GoesRound (rules : Rules) : Type 0 where
  pub queue : FileQueue
  pub positive : 0 < queue.depth
  pub history : History
  pub obey : Obey rules queue history
  pub more : queue.depth < posts queue history
  pub done : messages queue history ≡ []
