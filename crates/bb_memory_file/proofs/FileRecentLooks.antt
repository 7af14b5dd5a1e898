-- In a run that fills no slot often, each look of a process is recent.
use Rattle.bb_memory_file.specs.FileCode.{Event, ExchangeFlag, ExchangeSlot}
use Rattle.bb_memory_file.specs.FileNames.{Empty, HeldBy, Message, SentTo}
use Rattle.bb_memory_file.specs.FileQueueLives.{AreRecent, EventRelies, IsRecent, LooksAreRecent, PassRelies, ProcessesObey, events_of}
use Rattle.bb_memory_file.specs.FileQueueLooks.{CanPass, EventObeys, EventsObey}
use Rattle.bb_memory_file.specs.FileQueueLooks as looks
use Rattle.bb_memory_file.specs.FileRuns.{Act, words_after}
use Rattle.bb_memory_file_machine.specs.FileMachine.{FileWords}
use Rattle.bb_memory_file_machine.specs.FileQueues.{FileQueue, IsMoment, earlier, fills, is_filling, lap_before, now, slot_before}
use Rattle.std.proofs.Common.{Bool, List, [], arith, false, length, true, ℕ, ◌+◌, ◌<◌, ◌^◌, ◌∷◌, ◌≤◌}
use Rattle.std.specs.Prelude.{if◌then◌else◌, slice_get}

module _ {X : Type 0} (words : List X → FileWords) (slot : ℕ) where
  grown : (count : ℕ) (more : Bool) → (count ≤ (if more then count + 1 else count))
      × ((if more then count + 1 else count) ≤ count + 1)
  grown count true = (omega arith, omega arith)
  grown count false = (omega arith, omega arith)

  -- at a moment, a slot hasn't been filled more often than later
  fills_grow : (moment list : List X) → IsMoment moment list → fills words slot moment ≤ fills words slot list
  fills_grow moment _ now = omega arith
  fills_grow moment _ (earlier item list past) =
      let less = fills_grow moment list past in
      let more = grown (fills words slot list)
      (is_filling (slice_get (words list).slots slot) (slice_get (words (item ∷ list)).slots slot)) in
      let one = more.0 in omega (arith, less, one)

  -- a slot is filled at most as often as anything happens
  pub fills_length : (list : List X) → fills words slot list ≤ length list
  fills_length [] = omega arith
  fills_length (item ∷ list) =
      let less = fills_length list in
      let more = grown (fills words slot list)
      (is_filling (slice_get (words list).slots slot) (slice_get (words (item ∷ list)).slots slot)) in
      let one = more.1 in omega (arith, less, one)

module _ (queue : FileQueue) (acts : List Act)
    (few : (slot : ℕ) → fills (words_after queue.scene) slot acts < 2 ^ 29) (process party : ℕ) where
  recent_there : (events : List Event) (slot : ℕ) (seen : List Event) → IsRecent queue.scene acts process events slot seen
  recent_there events slot seen from until since past looked relied =
      let less = fills_grow (words_after queue.scene) slot until acts past in
      let all = few slot in
      omega (arith, less, all)

  pass_recent : (events moment : List Event) (slot lap : ℕ) (can : CanPass party events moment slot lap) →
      PassRelies (IsRecent queue.scene acts process events) can
  pass_recent events moment slot lap (looks.over word look later) =
      recent_there events slot (look.event ∷ look.before)
  pass_recent events moment slot lap (looks.unsent bucket look event before since_look since_take past shows) =
      recent_there events slot (look.event ∷ look.before)
  pass_recent events moment slot lap (looks.held bucket look holds) =
      recent_there events slot (look.event ∷ look.before)

  event_recent : (events : List Event) (event : Event) (obeys : EventObeys party queue events event) →
      EventRelies party queue events event (IsRecent queue.scene acts process events) obeys
  event_recent events (ExchangeSlot slot (Empty lap) (Message found bucket)) obeys = λ its.
      let can = obeys its in recent_there events (slot_before queue slot) (can.look.event ∷ can.look.before)
  event_recent events (ExchangeFlag bucket (SentTo slot lap) (HeldBy other)) obeys = λ its.
      let can = obeys its in (
        recent_there events slot (can.look.event ∷ can.look.before),
        (λ at its apart. pass_recent events (can.look.event ∷ can.look.before) at (lap_before lap slot at)
            (can.others at its apart)),
      )
  event_recent events _ obeys = tt

  looks_recent : (events : List Event) (obey : EventsObey party queue events) →
      LooksAreRecent party queue acts process events obey
  looks_recent [] obey = tt
  looks_recent (event ∷ events) obey = (event_recent events event obey.0, looks_recent events obey.1)

-- in a run that fills no slot often, each look is recent
pub all_recent : (queue : FileQueue) (acts : List Act) → ((slot : ℕ) → fills (words_after queue.scene) slot acts < 2 ^ 29) →
    (obey : ProcessesObey queue acts) → AreRecent queue acts obey
all_recent queue acts few obey process party locks =
    looks_recent queue acts few process party (events_of process acts) (obey process party locks)
