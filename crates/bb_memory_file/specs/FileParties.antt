-- The log of a party over the words of a file.
use Rattle.bb_memory_file.specs.FileFormat.{event_of}
use Rattle.bb_memory_file.specs.FileLog.{FileLog}
use Rattle.bb_memory_file.specs.FileRuns.{CanUnlock}
use Rattle.bb_memory_file.specs.Recorded.{WordEvent, recorded}
use Rattle.bb_memory_file.specs.declared.geometry.FileGeometry.{FileGeometry}
use Rattle.bb_memory_file.specs.declared.party.FileParty.{FileParty}
use Rattle.bb_memory_file_machine.specs.FileMachine.{FileScene}
use Rattle.std.specs.Prelude.{List, map, ℕ, ◌≡◌}

-- the sizes of a file as those of a machine, of which the file says no number of processes
abbrev pub scene_of : FileGeometry → FileScene
scene_of geometry =
    record { buckets = geometry.buckets; slots = geometry.slots; parties = geometry.parties; processes = 0 }

-- the same sizes with this many processes
abbrev pub with_processes : FileScene → ℕ → FileScene
with_processes scene processes = record scene { processes = processes }

-- the same log of a file with this many processes
abbrev pub among : ℕ → FileLog → FileLog
among processes log = record log { scene = with_processes log.scene processes }

-- the log of a party of this number that has made these operations: the events that they are
abbrev pub log_by : FileGeometry → ℕ → List WordEvent → FileLog
log_by geometry number operations =
    record { scene = scene_of geometry; party = number; events = map (event_of geometry) operations }

-- the party's log
abbrev pub log_of : FileParty → FileLog
log_of party = log_by party.geometry party.number (recorded party.hand)

-- a party with this log, by which its process may free the lock, was given up
abbrev pub IsUnlocked : FileLog → Type 0
IsUnlocked log = (party : FileParty) × (log_of party ≡ log) × CanUnlock log
