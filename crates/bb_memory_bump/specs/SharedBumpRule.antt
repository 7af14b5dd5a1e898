-- The rule of a shared bump's word, what a seat of the bump stands for, and how each step on the
-- word changes the seat that makes it.
use Rattle.atomic_table.specs.Seated.{TableId}
use Rattle.atomic_table.specs.Table.{Me, State, Step}
use Rattle.bb_memory_bump.specs.Bump.{Layout}
use Rattle.bb_memory_bump.specs.SharedBump.{BumpOutcome, BumpParty, BumpStep, Exchange, HasChunksWithin, HaveChunksApart, IsRefused, IsSharedScene, IsWon, Load, Loaded, Read, SharedBump, scene_at}
use Rattle.bb_memory_bump_machine.specs.BumpLogs.{BumpEntry, BumpLog, CommonInterleaving, HasPositionFrom, HasPositionUpTo, Interleaving, LogsAgree, call_in, chunks_won, entry_of, losses_in, seen_in}
use Rattle.bb_memory_bump_machine.specs.BumpMachine.{BumpScene, OngoingCall, chunk_at, exchange_move, fits, read_move}
use Rattle.bb_memory_seats.specs.Seats.{AreSeated, HaveLogs, IsAt, Numbered, View, alone, fresh_from, number_of, numbered, standing_for, times_in, view_log}
use Rattle.bb_memory_traits.specs.Chunk.{Chunk, IsInside, IsRegion, Region, chunk_end, region_at, region_end}
use Rattle.std.specs.Prelude.{All, List, None, Option, Some, [], false, length, max, true, ℕ, ◌%◌, ◌++◌, ◌+◌, ◌<◌, ◌∷◌, ◌≡◌, ◌≢◌, ◌≤◌}
use lib.ListN.{get_elem?}
use mathlib.Core.Option.{some}

-- SEATS

-- the number of a party, and its log
abbrev pub NumberedLog : Type 0
NumberedLog = Numbered BumpEntry

-- the number of this party, and its log
abbrev pub numbered_of : BumpParty → NumberedLog
numbered_of party = numbered party.number party.log

-- the knowledge of a seat of a shared bump: the scene, and the position that the last meeting there
-- found, or 0
pub record Sight : Type 0 where
  pub scene : BumpScene
  pub met : ℕ

-- the knowledge of a seat with this scene and this last meeting
abbrev pub sight : BumpScene → ℕ → Sight
sight scene met = record { scene = scene; met = met }

-- the view of a seat of a shared bump
abbrev pub SeatView : Type 0
SeatView = View Sight BumpEntry

-- the scene that a seat knows
abbrev pub scene_of : SeatView → BumpScene
scene_of view = view.scene.scene

-- the position that the last meeting at a seat found, or 0
abbrev pub met_by : SeatView → ℕ
met_by view = view.scene.met

-- the party at a seat of this table, by its number and the seat's view
abbrev pub party_in : TableId → ℕ → SeatView → BumpParty
party_in table number view = record {
  allocator = record { table = table; scene = scene_of view };
  number = number;
  log = view_log view;
  met = met_by view;
}

-- The seat stands only for this party. Some interleaving of the party's log leaves what it has
-- seen, and some interleaving of the log leaves its floor.
pub record IsSeatOf (scene : BumpScene) (number : ℕ) (log : BumpLog) (me : Me ℕ SeatView) : Type 0 where
  pub is : me ≡ (alone (sight scene (met_by me.0)) number log, [])
  pub interleaved : Interleaving scene number log (seen_in scene log)
  pub reached : Interleaving scene number log (max (seen_in scene log) (met_by me.0))

-- the seat stands only for this party, which is in no call
pub record IsSeatOfIdle (scene : BumpScene) (number : ℕ) (log : BumpLog) (me : Me ℕ SeatView) : Type 0 where
  pub seat : IsSeatOf scene number log me
  pub idle : call_in log ≡ None

-- the seat of a party of a shared bump that is in no call: its number is below the number of
-- parties, and no meeting found more than the region's size
pub record IsPartySeat (number : ℕ) (me : Me ℕ SeatView) : Type 0 where
  pub seat : IsSeatOfIdle (scene_of me.0) number (view_log me.0) me
  pub below : number < (scene_of me.0).parties
  pub shared : IsSharedScene (scene_of me.0)
  pub met : met_by me.0 ≤ (scene_of me.0).region.size

-- a seat at this bump's table that stands for one party
abbrev pub IsSeatAt : SharedBump → TableId → Me ℕ SeatView → Type 0
IsSeatAt bump here me = IsAt bump.table here (IsSeatOf bump.scene (number_of me.0) (view_log me.0) me)

-- a seat at this bump's table that stands for one party, which is in no call
abbrev pub IsIdleAt : SharedBump → TableId → Me ℕ SeatView → Type 0
IsIdleAt bump here me = IsAt bump.table here (IsSeatOfIdle bump.scene (number_of me.0) (view_log me.0) me)

-- a seat at this bump's table that stands for any number of parties
abbrev pub StandsAt : SharedBump → TableId → Me ℕ SeatView → Type 0
StandsAt bump here me = IsAt bump.table here (me ≡ (standing_for (sight bump.scene (met_by me.0)) me.0.parties, []))

-- THE RULE

-- The rule of the word: words and logs agree. There is a log for each party, and these logs agree
-- with the position that the word has. Each party is in exactly one view, with its log; the view of
-- a party that was dropped stays. No meeting has found more than the position.
pub record WordsAndLogsAgree (scene : BumpScene) (state : State ℕ SeatView) : Type 0 where
  pub position : ℕ
  pub logs : List BumpLog
  pub agree : LogsAgree scene position logs
  pub words : state.words ≡ position ∷ []
  pub opened : scene.opening ≤ scene.region.size
  pub one_a_party : length logs ≡ scene.parties
  pub seated : AreSeated scene.parties logs state.views
  pub met : (seat : ℕ) (view : SeatView) → get_elem? state.views seat ≡ some view → met_by view ≤ position

-- the table has one word, and no slot
pub record HasOneWord (table : TableId) : Type 0 where
  pub words : table.words ≡ 1
  pub slots : table.slots ≡ 0

-- the scene has this region, which is valid, an opening of at most its size, and at least one party
pub record IsSharedBump (scene : BumpScene) (start size : ℕ) : Type 0 where
  pub region : scene.region ≡ region_at start size
  pub is_region : IsRegion (region_at start size)
  pub shared : IsSharedScene scene

-- DEALING AND MEETING

-- the view of the first seat, which stands for all parties until each gets a seat of its own
abbrev pub all_parties : BumpScene → SeatView
all_parties scene = standing_for (sight scene 0) (fresh_from 0 scene.parties)

-- a view of no party, over an empty region
abbrev pub nobody : SeatView
nobody = standing_for (sight (scene_at (region_at 0 0) 0 0) 0) []

-- the view of a seat that took over a guest's parties, and that keeps the greater position of the
-- last meetings
abbrev pub merged : SeatView → SeatView → SeatView
merged view guest = standing_for (sight (scene_of view) (max (met_by view) (met_by guest))) (guest.parties ++ view.parties)

-- the view after a meeting that found this position
abbrev pub meeting_of : ℕ → SeatView → SeatView
meeting_of position view = standing_for (sight (scene_of view) position) view.parties

-- STEPS

-- A party's step found this position: at least what the party had seen, at least what its last
-- meeting had found, and at most the region's size. If the bump has no other party, it is exactly
-- what the party had seen. The party's log then ends with the step and this outcome.
pub record AfterStep (scene : BumpScene) (number : ℕ) (log : BumpLog) (met : ℕ) (step : BumpStep)
    (outcome : BumpOutcome) (found : ℕ) (new : Me ℕ SeatView) : Type 0 where
  pub seat : IsSeatOf scene number (log ++ entry_of step outcome ∷ []) new
  pub unchanged : met_by new.0 ≡ met
  pub seen : seen_in scene log ≤ found
  pub above : met ≤ found
  pub within : found ≤ scene.region.size
  pub exact : scene.parties ≡ 1 → found ≡ seen_in scene log

-- a party's read for this layout, which found this position
abbrev pub AfterRead : BumpScene → ℕ → BumpLog → ℕ → Layout → ℕ → Me ℕ SeatView → Type 0
AfterRead scene number log met layout found new =
    AfterStep scene number log met (Read number layout) (read_move scene.region found layout).outcome found new

-- a party's exchange for the call that it is in, which found this position
abbrev pub AfterExchange : BumpScene → ℕ → BumpLog → ℕ → ℕ → Me ℕ SeatView → Type 0
AfterExchange scene number log met found new = (call : OngoingCall) → call_in log ≡ Some call → AfterStep scene number log met
    (Exchange number) (exchange_move scene.region found call).outcome found new

-- a party's load, which found this position
abbrev pub AfterLoad : BumpScene → ℕ → BumpLog → ℕ → ℕ → Me ℕ SeatView → Type 0
AfterLoad scene number log met found new = AfterStep scene number log met (Load number) (Loaded found) found new

-- A load by a seat that stands for these parties found this position: at least what the last
-- meetings had found, and at most the region's size. Some logs, one for each of the bump's parties,
-- agree with it, and the logs of these parties are among them. No party is in the list twice.
pub record AfterMeetingLoad (scene : BumpScene) (parties : List NumberedLog) (met found : ℕ) : Type 0 where
  pub above : met ≤ found
  pub within : found ≤ scene.region.size
  pub opened : scene.opening ≤ scene.region.size
  pub logs : List BumpLog
  pub agree : LogsAgree scene found logs
  pub one_a_party : length logs ≡ scene.parties
  pub theirs : HaveLogs scene.parties logs parties
  pub once : (number : ℕ) → number < scene.parties → times_in number parties ≤ 1

-- Two parties met, and found this position. The two are different parties, no chunk of one overlaps
-- a chunk of the other, and some interleaving of their logs leaves the position.
pub record AfterMeeting (scene : BumpScene) (number : ℕ) (log : BumpLog) (other : ℕ) (other_log : BumpLog) (found : ℕ) : Type 0
  where
    pub differ : number ≢ other
    pub apart : HaveChunksApart log other_log
    pub interleaved : CommonInterleaving scene number log other other_log found
    pub seen : (seen_in scene log ≤ found) × (seen_in scene other_log ≤ found)
    pub within : found ≤ scene.region.size
    pub chunks : HasChunksWithin scene.region log found × HasChunksWithin scene.region other_log found

-- a read of this layout, as the table knows the step
abbrev pub reads : Option Layout → Step ℕ → Me ℕ SeatView → ℕ → Me ℕ SeatView → Type 0
reads (Some layout) step old found new =
    AfterRead (scene_of old.0) (number_of old.0) (view_log old.0) (met_by old.0) layout found new
reads None step old found new = Unit {0}

-- an exchange, as the table knows the step
abbrev pub exchanges : Step ℕ → Me ℕ SeatView → ℕ → Me ℕ SeatView → Type 0
exchanges step old found new = AfterExchange (scene_of old.0) (number_of old.0) (view_log old.0) (met_by old.0) found new

-- a load, as the table knows the step
abbrev pub loads : Step ℕ → Me ℕ SeatView → ℕ → Me ℕ SeatView → Type 0
loads step old found new = AfterLoad (scene_of old.0) (number_of old.0) (view_log old.0) (met_by old.0) found new

-- A meeting of the party with this number and log found this position, which is at most the region's
-- size. Some interleaving of the log leaves the greater one of it and what the party has seen.
pub record HasMet (scene : BumpScene) (found : ℕ) (party : NumberedLog) : Type 0 where
  pub within : found ≤ scene.region.size
  pub reached : Interleaving scene party.number party.log (max (seen_in scene party.log) found)

-- the party of this bump with this number and log, after a meeting that found this position
abbrev pub met_of : SharedBump → ℕ → NumberedLog → BumpParty
met_of bump found party = record { allocator = bump; number = party.number; log = party.log; met = found }

-- a load by a seat that stands for any number of parties, as the table knows the step
abbrev pub meets : Step ℕ → Me ℕ SeatView → ℕ → Me ℕ SeatView → Type 0
meets step old found new =
    (new ≡ (meeting_of found old.0, old.1)) × AfterMeetingLoad (scene_of old.0) old.0.parties (met_by old.0) found

-- REQUESTS

-- The party of this seat may begin a request for this layout: it is in no call, and the size isn't
-- 0. The step has the layout in its type.
pub record MayAsk (bump : SharedBump) (here : TableId) (me : Me ℕ SeatView) (asked : Option Layout) (layout : Layout)
    : Type 0 where
  pub seat : IsIdleAt bump here me
  pub asks : 0 < layout.size
  pub told : asked ≡ Some layout

-- the chunk that this layout gets at this position, at which it fits
pub record IsFor (region : Region) (position : ℕ) (layout : Layout) (chunk : Chunk) : Type 0 where
  pub fitting : fits region position layout ≡ true
  pub placed : chunk ≡ chunk_at region position layout
  pub aligned : chunk.place % layout.align ≡ 0
  pub inside : IsInside region chunk
  pub above : region.start + position ≤ chunk.place

-- The entries that were added to a log: each of their positions is at least the party's floor and
-- at most the region's size, and at most one exchange was lost for each byte of the region.
pub record IsCounted (scene : BumpScene) (log : BumpLog) (met : ℕ) (added : BumpLog) : Type 0 where
  pub seen : All (HasPositionFrom (max (seen_in scene log) met) scene.region) added
  pub within : All (HasPositionUpTo scene.region.size scene.region) added
  pub losses : losses_in added ≤ scene.region.size

-- a call that added these entries to the party's log has ended, and the party is in no call
pub record AfterCall (scene : BumpScene) (number : ℕ) (log : BumpLog) (met : ℕ) (added : BumpLog)
    (new : Me ℕ SeatView) : Type 0 where
  pub seat : IsSeatOfIdle scene number (log ++ added) new
  pub unchanged : met_by new.0 ≡ met
  pub counted : IsCounted scene log met added

-- A request won this chunk, which begins at the party's floor or after it. If the bump has no other
-- party, the chunk is the one that the layout gets at what the party had seen.
pub record AfterWin (scene : BumpScene) (number : ℕ) (log : BumpLog) (met : ℕ) (layout : Layout)
    (new : Me ℕ SeatView) (chunk : Chunk) : Type 0 where
  pub added : BumpLog
  pub ended : AfterCall scene number log met added new
  pub won : IsWon scene.region number layout added chunk
  pub chunks : chunks_won added ≡ chunk ∷ []
  pub behind : scene.region.start + max (seen_in scene log) met ≤ chunk.place
  pub below : chunk_end chunk ≤ region_end scene.region
  pub alone : scene.parties ≡ 1 → chunk ≡ chunk_at scene.region (seen_in scene log) layout

-- A request was refused. If the bump has no other party, the layout doesn't fit at what the party
-- had seen.
pub record AfterRefusal (scene : BumpScene) (number : ℕ) (log : BumpLog) (met : ℕ)
    (layout : Layout) (new : Me ℕ SeatView) : Type 0 where
  pub added : BumpLog
  pub ended : AfterCall scene number log met added new
  pub refused : IsRefused scene.region number layout added
  pub chunks : chunks_won added ≡ []
  pub alone : scene.parties ≡ 1 → fits scene.region (seen_in scene log) layout ≡ false
