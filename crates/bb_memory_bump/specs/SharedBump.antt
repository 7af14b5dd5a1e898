-- A shared bump and its parties, as their contracts see them, and what each call adds to its
-- party's log.
use Rattle.atomic_table.specs.Seated.{TableId}
use Rattle.bb_memory_bump.specs.Bump.{AllocationError, Layout, OutOfMemory, SizeIsZero}
use Rattle.bb_memory_bump_machine.specs.BumpLogs.{BumpLog, CommonInterleaving, HasLog, HasPositionFrom, HasPositionUpTo, Interleaving, LogsAgree, call_in, chunks_won, entry_of, seen_in}
use Rattle.bb_memory_bump_machine.specs.BumpMachine.{BumpScene, chunk_at, fits}
pub use Rattle.bb_memory_bump_machine.specs.declared.steps.bump.BumpOutcome.{BumpOutcome}
pub use Rattle.bb_memory_bump_machine.specs.declared.steps.bump.BumpOutcome.TheVariants.{Loaded, Loses, RefusedAtLoss, RefusedAtRead, Sees, Wins}
pub use Rattle.bb_memory_bump_machine.specs.declared.steps.bump.BumpStep.{BumpStep}
pub use Rattle.bb_memory_bump_machine.specs.declared.steps.bump.BumpStep.TheVariants.{Exchange, Load, Read}
use Rattle.bb_memory_traits.specs.BumpObject.{MayAllocate, StandsFor}
use Rattle.bb_memory_traits.specs.Chunk.{AreApart, Chunk, Region, chunk_end}
use Rattle.bb_memory_traits.specs.declared.allocator.AllocationError.TheVariants.{AlignmentFailure, SizeTooLarge}
use Rattle.std.specs.Prelude.{All, Contains, Err, List, None, Ok, Result, Some, [], false, length, map, max, slice_get, true, ℕ, ◌++◌, ◌+◌, ◌<◌, ◌∷◌, ◌≡◌, ◌≢◌, ◌≤◌}

-- A shared bump: the table that identifies it, and the scene in which its machine began, which is
-- its region, the position at `share`, and the number of parties.
pub record SharedBump : Type 0 where
  pub table : TableId
  pub scene : BumpScene

-- the scene over this region, at this opening, for this number of parties
abbrev pub scene_at : Region → ℕ → ℕ → BumpScene
scene_at region opening parties = record { region = region; opening = opening; parties = parties }

-- the opening is at most the size of the region, and there is at least one party
pub record IsSharedScene (scene : BumpScene) : Type 0 where
  pub opening : scene.opening ≤ scene.region.size
  pub parties : 1 ≤ scene.parties

-- a party: the bump that it belongs to, its number there, its log, and the position that its last
-- meeting found, or 0 if it has met no other
pub record BumpParty : Type 0 where
  pub allocator : SharedBump
  pub number : ℕ
  pub log : BumpLog
  pub met : ℕ

-- the party of this number, which has made no step
abbrev pub fresh_party : SharedBump → ℕ → BumpParty
fresh_party allocator number = record { allocator = allocator; number = number; log = []; met = 0 }

-- all `count` parties of a bump, numbered from 0, none of which has made a step
pub record AreFresh (allocator : SharedBump) (count : ℕ) (parties : List BumpParty) : Type 0 where
  pub so_many : allocator.scene.parties ≡ count
  pub as_many : length parties ≡ count
  pub fresh : (number : ℕ) → number < count → slice_get parties number ≡ Some (fresh_party allocator number)
  pub theirs : All (λ party. party.allocator ≡ allocator) parties

-- the party with these entries added to its log
abbrev pub with_entries : BumpParty → BumpLog → BumpParty
with_entries party entries = record {
  allocator = party.allocator;
  number = party.number;
  log = party.log ++ entries;
  met = party.met;
}

-- the party after a meeting that found this position
abbrev pub meeting_at : ℕ → BumpParty → BumpParty
meeting_at position party = record {
  allocator = party.allocator;
  number = party.number;
  log = party.log;
  met = position;
}

-- the position that the party has seen: the greatest one in its log, and at least the opening
abbrev pub seen_by : BumpParty → ℕ
seen_by party = seen_in party.allocator.scene party.log

-- The party's floor: the party knows that the bump's position is at least this. The floor is the
-- greater of the position that the party has seen and the one that its last meeting found.
abbrev pub floor_of : BumpParty → ℕ
floor_of party = max (seen_by party) party.met

-- the greatest position that one of these parties has seen, or 0 if there is no party
abbrev pub greatest_seen : List BumpParty → ℕ
greatest_seen [] = 0
greatest_seen (party ∷ parties) = max (seen_by party) (greatest_seen parties)

-- ENTRIES OF CALLS

-- A request in progress has made these entries and has seen this position: a read, and then lost
-- exchanges, each at a greater position. The layout fits at each of the positions.
pub data Tries (region : Region) (party : ℕ) (layout : Layout) : BumpLog → ℕ → Type 0 where
  by_read : (tried : BumpLog) (position : ℕ) → tried ≡ entry_of (Read party layout) (Sees position) ∷ [] →
      fits region position layout ≡ true → Tries region party layout tried position
  by_loss : (before tried : BumpLog) (seen position : ℕ) → Tries region party layout before seen →
      tried ≡ before ++ entry_of (Exchange party) (Loses position) ∷ [] → seen < position →
      fits region position layout ≡ true → Tries region party layout tried position

-- A request made these entries and won this chunk: the one that the layout gets at the position
-- that the request had seen.
pub record IsWon (region : Region) (party : ℕ) (layout : Layout) (added : BumpLog) (chunk : Chunk) : Type 0 where
  pub seen : ℕ
  pub tried : BumpLog
  pub tries : Tries region party layout tried seen
  pub is : added ≡ tried ++ entry_of (Exchange party) (Wins chunk) ∷ []
  pub placed : chunk ≡ chunk_at region seen layout

-- A request made these entries and was refused: by its read, or by a lost exchange at a greater
-- position. The layout doesn't fit at the position that was found last.
pub data IsRefused (region : Region) (party : ℕ) (layout : Layout) (added : BumpLog) : Type 0 where
  at_read : (position : ℕ) → added ≡ entry_of (Read party layout) (RefusedAtRead position) ∷ [] →
      fits region position layout ≡ false → IsRefused region party layout added
  at_loss : (tried : BumpLog) (seen position : ℕ) → Tries region party layout tried seen →
      added ≡ tried ++ entry_of (Exchange party) (RefusedAtLoss position) ∷ [] → seen < position →
      fits region position layout ≡ false → IsRefused region party layout added

-- each position in these entries is at least the party's floor, and at most the region's size
pub record IsFoundBy (party : BumpParty) (added : BumpLog) : Type 0 where
  pub seen : All (HasPositionFrom (floor_of party) party.allocator.scene.region) added
  pub within : let region = party.allocator.scene.region in All (HasPositionUpTo region.size region) added

-- ANSWERS TO REQUESTS

-- The answers that a party's request may have, and the party after it.
abbrev pub MayTake : BumpParty → Layout → Result Chunk AllocationError → BumpParty → Type 0
MayTake party layout (Ok chunk) new =
    (0 < layout.size) × (added : BumpLog) × IsWon party.allocator.scene.region party.number layout added chunk
    × (new ≡ with_entries party added)
-- refused before any step: the party doesn't change
MayTake party layout (Err SizeIsZero) new = (layout.size ≡ 0) × (new ≡ party)
-- refused by a read, or by a lost exchange, at which the layout doesn't fit
MayTake party layout (Err OutOfMemory) new =
    (0 < layout.size) × (added : BumpLog) × IsRefused party.allocator.scene.region party.number layout added
    × (new ≡ with_entries party added)
-- a shared bump never refuses for these reasons
MayTake party layout (Err SizeTooLarge) new = ⊥
MayTake party layout (Err AlignmentFailure) new = ⊥

-- the bump object may give this answer while `used` bytes of the region are used
abbrev pub IsAnsweredAt : Region → ℕ → Layout → Result Chunk AllocationError → Type 0
IsAnsweredAt region used layout answer = (live : List Chunk) → StandsFor region used live → MayAllocate region live layout answer

-- INTERLEAVINGS

-- some interleaving of the party's log with some logs of the bump's other parties leaves this
-- position
abbrev pub IsInterleaved : BumpParty → ℕ → Type 0
IsInterleaved party position = Interleaving party.allocator.scene party.number party.log position

-- The invariant of a party. Its number is below the number of parties, and it is in no call. Some
-- interleaving of its log leaves what it has seen, and some interleaving of its log leaves its
-- floor. No meeting found more than the region's size.
pub record IsParty (party : BumpParty) : Type 0 where
  pub scene : IsSharedScene party.allocator.scene
  pub number : party.number < party.allocator.scene.parties
  pub idle : call_in party.log ≡ None
  pub interleaved : IsInterleaved party (seen_by party)
  pub reached : IsInterleaved party (floor_of party)
  pub met : party.met ≤ party.allocator.scene.region.size

-- a party before and after a call: the number is the same, and the invariant of a party holds
pub record IsSameParty (old new : BumpParty) : Type 0 where
  pub number : new.number ≡ old.number
  pub is_party : IsParty new

-- A party's load found this position: at least what the party had seen, at least its floor, and at
-- most the region's size. If the bump has no other party, it is exactly what the party had seen.
pub record HasLoaded (bump : SharedBump) (old : BumpParty) (found : ℕ) (new : BumpParty) : Type 0 where
  pub logged : new ≡ with_entries old (entry_of (Load old.number) (Loaded found) ∷ [])
  pub number : new.number ≡ old.number
  pub is_party : IsParty new
  pub seen : seen_by old ≤ found
  pub floor : floor_of old ≤ found
  pub within : found ≤ bump.scene.region.size
  pub alone : bump.scene.parties ≡ 1 → found ≡ seen_by old

-- both parties belong to this bump
pub record AreBothOf (allocator : SharedBump) (one other : BumpParty) : Type 0 where
  pub a : one.allocator ≡ allocator
  pub b : other.allocator ≡ allocator

-- the logs of the two parties have an interleaving with some logs of the others
abbrev pub AreInterleaved : BumpParty → BumpParty → Type 0
AreInterleaved a b = (position : ℕ) × CommonInterleaving a.allocator.scene a.number a.log b.number b.log position

-- Two parties met, and found this position: it is at least the floor of either, at most the
-- region's size, and some interleaving of both logs leaves it.
pub record MeetAt (bump : SharedBump) (a b : BumpParty) (found : ℕ) : Type 0 where
  pub differ : a.number ≢ b.number
  pub interleaved : AreInterleaved a b
  pub risen : (floor_of a ≤ found) × (floor_of b ≤ found)
  pub within : found ≤ bump.scene.region.size
  pub leaves : CommonInterleaving bump.scene a.number a.log b.number b.log found

-- no chunk that was won in one log overlaps a chunk that was won in the other
abbrev pub HaveChunksApart : BumpLog → BumpLog → Type 0
HaveChunksApart log other_log = All (λ chunk. All (AreApart chunk) (chunks_won other_log)) (chunks_won log)

-- each chunk that was won in the log ends within the first `used` bytes of the region
abbrev pub HasChunksWithin : Region → BumpLog → ℕ → Type 0
HasChunksWithin region log used = All (λ chunk. chunk_end chunk ≤ region.start + used) (chunks_won log)

-- ALL PARTIES

-- each number below `count` is the number of one of these parties
abbrev pub HaveAllNumbers : ℕ → List BumpParty → Type 0
HaveAllNumbers count parties = (number : ℕ) → number < count → Contains (map (λ party. party.number) parties) number

-- Some logs, one for each of the bump's parties, agree with this position, and the logs of these
-- parties are among them. If these are all parties of the bump, each log is one of theirs, and the
-- position is the greatest that one of them has seen.
pub record AgreeAt (scene : BumpScene) (position : ℕ) (parties : List BumpParty) : Type 0 where
  pub logs : List BumpLog
  pub agree : LogsAgree scene position logs
  pub one_a_party : length logs ≡ scene.parties
  pub theirs : All (λ party. HasLog logs party.number party.log) parties
  pub differ : (i j : ℕ) (one other : BumpParty) → slice_get parties i ≡ Some one → slice_get parties j ≡ Some other → i ≢ j →
      one.number ≢ other.number
  pub whole : length parties ≡ scene.parties → HaveAllNumbers scene.parties parties × (position ≡ greatest_seen parties)

-- Parties before and after a meeting. The position that they found is at least the floor of each,
-- and some interleaving of all their logs leaves it.
pub record HaveMet (scene : BumpScene) (old new : List BumpParty) : Type 0 where
  pub position : ℕ
  pub kept : new ≡ map (meeting_at position) old
  pub risen : All (λ party. floor_of party ≤ position) old
  pub within : position ≤ scene.region.size
  pub agree : AgreeAt scene position old
