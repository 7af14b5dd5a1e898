-- Runs in which the acts on the slots of a queue obey its rules.
use Rattle.bb_memory_file.specs.FileNames.{Empty, HeldBy, Message, SentTo}
use Rattle.bb_memory_file.specs.FileRuns.{Act, words_after}
use Rattle.bb_memory_file_machine.specs.FileLaws.{IsFlag, IsSlot}
use Rattle.bb_memory_file_machine.specs.FileQueues.{FileQueue, IsSlotOf, MayEmpty, MayFill, MayTake}
use Rattle.std.specs.Prelude.{List, [], ℕ, ◌∷◌}

-- If an act fills, takes from or empties a slot of the queue, it obeys the rules. What a process has seen
-- is so at some moment of the run.
pub record ActObeys (queue : FileQueue) (acts : List Act) (act : Act) : Type 0 where
  pub fill : (slot lap found bucket : ℕ) → IsSlotOf queue slot → IsSlot (words_after queue.scene acts) slot (Empty lap) →
      IsSlot (words_after queue.scene (act ∷ acts)) slot (Message found bucket) →
      MayFill (words_after queue.scene) queue acts slot lap
  pub take : (slot bucket lap party : ℕ) → IsSlotOf queue slot →
      IsFlag (words_after queue.scene acts) bucket (SentTo slot lap) →
      IsFlag (words_after queue.scene (act ∷ acts)) bucket (HeldBy party) →
      MayTake (words_after queue.scene) queue acts slot bucket lap
  pub empty : (slot lap bucket next : ℕ) → IsSlotOf queue slot →
      IsSlot (words_after queue.scene acts) slot (Message lap bucket) →
      IsSlot (words_after queue.scene (act ∷ acts)) slot (Empty next) →
      MayEmpty (words_after queue.scene acts) slot next

-- each of these acts obeys the rules, the last first
abbrev pub ActsObey : FileQueue → List Act → Type 0
ActsObey queue [] = Unit {0}
ActsObey queue (act ∷ acts) = ActObeys queue acts act × ActsObey queue acts
