-- A file's row of words, as the words of the machine.
use Rattle.bb_memory_file.specs.FileCode.{Finds, left_by}
use Rattle.bb_memory_file.specs.FileFormat.{entry_at, entry_in, event_of, flag_at, flag_in, life_at, slot_at, slot_in}
use Rattle.bb_memory_file.specs.Recorded.{WordEvent, written}
use Rattle.bb_memory_file.specs.declared.geometry.FileGeometry.{FileGeometry}
use Rattle.bb_memory_file_machine.specs.FileLaws.{IsEntry, IsFlag, IsLife, IsSlot}
use Rattle.bb_memory_file_machine.specs.FileMachine.{FileWords}
use Rattle.std.specs.Prelude.{List, slice_index, ℕ, ◌<◌}

-- the row says these words of the machine
pub record Says (geometry : FileGeometry) (row : List ℕ) (words : FileWords) : Type 0 where
  pub flags : (bucket : ℕ) → bucket < geometry.buckets → IsFlag words bucket (flag_in (slice_index row (flag_at geometry bucket)))
  pub lives : (party : ℕ) → party < geometry.parties → IsLife words party (slice_index row (life_at geometry party))
  pub entries : (bucket : ℕ) → bucket < geometry.buckets →
      IsEntry words bucket (entry_in geometry.slots (slice_index row (entry_at geometry bucket)))
  pub slots : (slot : ℕ) → slot < geometry.slots → IsSlot words slot (slot_in (slice_index row (slot_at geometry slot)))

-- In these words, which the row says, the event that the party's operation is finds what it found, and
-- it leaves those words that the row says after the operation.
pub record IsEvent (geometry : FileGeometry) (party : ℕ) (row : List ℕ) (words : FileWords) (operation : WordEvent) : Type 0 where
  pub finds : Finds words party (event_of geometry operation)
  pub says : Says geometry (written row operation) (left_by words party (event_of geometry operation))
