-- The words of a file that its parties share, and what is found there by a look, which is a load.
use Rattle.bb_memory_file.specs.Recorded.{WordEvent, load_event}
use Rattle.bb_memory_file.specs.declared.geometry.FileGeometry.{FileGeometry}
use Rattle.bb_memory_file.specs.declared.recorded.RecordedWords.{RecordedWords}
use Rattle.std.specs.Prelude.{List, ℕ, ◌∷◌, ◌≡◌}

-- the words of a file, where each of them is, and the looks at them so far, the last first
pub record FileTable : Type 0 where
  pub geometry : FileGeometry
  pub words : RecordedWords
  pub looks : List WordEvent

-- A load of this word has found this: it is one more look at the words, and the only one. Nothing else
-- of the table has changed.
abbrev pub HasLoaded : FileTable → ℕ → ℕ → FileTable → Type 0
HasLoaded old word found new = new ≡ record old { looks = load_event word found ∷ old.looks }
