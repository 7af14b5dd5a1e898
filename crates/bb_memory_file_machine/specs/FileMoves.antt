-- The terms of the law about the kinds of steps: what has to hold for a step, and what it then does.
use Rattle.bb_memory_file_machine.specs.FileLaws.{IsLock, IsPlace}
use Rattle.bb_memory_file_machine.specs.FileMachine.{FileOutcome, FileState, FileStep, FileWords, Outside, Place, change_by, file_step, move_of, process_of}
use Rattle.std.specs.Prelude.{None, Some, slice_get, ℕ, ◌≡◌}

-- no process has the lock of this number
abbrev pub IsUnlocked : FileWords → ℕ → Type 0
IsUnlocked words party = slice_get words.locks party ≡ Some None

-- the process may begin a call by this number: it is in no call, and has the number's lock
pub record MayBegin (state : FileState) (process party : ℕ) : Type 0 where
  pub place : IsPlace state process Outside
  pub lock : IsLock state.words party process

-- The step has this outcome and leaves these words. Its process is at this place afterwards, and
-- each other process is where it was.
abbrev pub Makes : FileState → FileStep → FileOutcome → FileWords → Place → Type 0
Makes state step outcome words place = file_step state step ≡ change_by state (process_of step) (move_of outcome words place)
