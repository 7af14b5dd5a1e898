-- The operations that a party makes on the words of a file.
use Rattle.bb_memory_file.specs.FileFormat.{HasFlagWord, HasSlotWord, entry_at, flag_at, flag_word, life_at, slot_at, slot_word}
use Rattle.bb_memory_file.specs.FileLog.{IsLap}
use Rattle.bb_memory_file.specs.FileNames.{Empty, FileFlag, Slot}
use Rattle.bb_memory_file.specs.Recorded.{Exchange, Load, Store, WordEvent}
use Rattle.bb_memory_file.specs.declared.geometry.FileGeometry.{FileGeometry}
use Rattle.std.specs.Prelude.{List, [], ℕ, ◌<◌, ◌∷◌}

-- The party makes this operation on a word of the file. It loads each word, but exchanges only flags and
-- words of slots, each from a word that is one of its kind. A store to a slot empties it, and the party
-- loads and stores no life but its own.
pub data IsMade (geometry : FileGeometry) (party : ℕ) : WordEvent → Type 0 where
  loads_flag : (bucket found : ℕ) → bucket < geometry.buckets → IsMade geometry party (Load (flag_at geometry bucket) found)
  exchanges_flag : (bucket : ℕ) (from : FileFlag) (to found : ℕ) → bucket < geometry.buckets → HasFlagWord from →
      IsMade geometry party (Exchange (flag_at geometry bucket) (flag_word from) to found)
  stores_flag : (bucket to : ℕ) → bucket < geometry.buckets → IsMade geometry party (Store (flag_at geometry bucket) to)
  loads_entry : (bucket found : ℕ) → bucket < geometry.buckets → IsMade geometry party (Load (entry_at geometry bucket) found)
  stores_entry : (bucket to : ℕ) → bucket < geometry.buckets → IsMade geometry party (Store (entry_at geometry bucket) to)
  loads_slot : (slot found : ℕ) → slot < geometry.slots → IsMade geometry party (Load (slot_at geometry slot) found)
  exchanges_slot : (slot : ℕ) (from : Slot) (to found : ℕ) → slot < geometry.slots → HasSlotWord from →
      IsMade geometry party (Exchange (slot_at geometry slot) (slot_word from) to found)
  empties_slot : (slot lap : ℕ) → slot < geometry.slots → IsLap lap →
      IsMade geometry party (Store (slot_at geometry slot) (slot_word (Empty lap)))
  loads_life : (found : ℕ) → IsMade geometry party (Load (life_at geometry party) found)
  stores_life : (to : ℕ) → IsMade geometry party (Store (life_at geometry party) to)

-- the party makes all of these operations
abbrev pub AreMade : FileGeometry → ℕ → List WordEvent → Type 0
AreMade geometry party [] = Unit {0}
AreMade geometry party (operation ∷ operations) = IsMade geometry party operation × AreMade geometry party operations

-- A load of a word of the file, which anybody may make: the one who looks has no lock.
pub data IsLook (geometry : FileGeometry) : WordEvent → Type 0 where
  looks_at_flag : (bucket found : ℕ) → bucket < geometry.buckets → IsLook geometry (Load (flag_at geometry bucket) found)
  looks_at_entry : (bucket found : ℕ) → bucket < geometry.buckets → IsLook geometry (Load (entry_at geometry bucket) found)
  looks_at_slot : (slot found : ℕ) → slot < geometry.slots → IsLook geometry (Load (slot_at geometry slot) found)
  looks_at_life : (party found : ℕ) → party < geometry.parties → IsLook geometry (Load (life_at geometry party) found)

-- all of these operations are looks
abbrev pub AreLooks : FileGeometry → List WordEvent → Type 0
AreLooks geometry [] = Unit {0}
AreLooks geometry (operation ∷ operations) = IsLook geometry operation × AreLooks geometry operations
