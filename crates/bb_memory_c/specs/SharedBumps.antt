-- A shared bump and its parties, in handles, and C's answers.
use Rattle.bb_memory_bump.specs.SharedBump.{AreFresh, BumpParty, HasLoaded, IsFoundBy, MayTake, SharedBump, floor_of, scene_at, with_entries}
use Rattle.bb_memory_bump_machine.specs.BumpLogs.{BumpLog}
use Rattle.bb_memory_c_calls.specs.Calls.{AreKnown, IsOneOf, Parties, Sharing, count_unjoined, with_party}
use Rattle.bb_memory_c_calls.specs.OneOwner.{bump_info}
use Rattle.bb_memory_c_calls.specs.declared.answer.BumpInfo.{BumpInfo}
use Rattle.bb_memory_c_calls.specs.declared.code.TheConstants.{MALLOC_REFUSED as malloc_refused, OK as ok, PARTIES_JOINED as parties_joined}
use Rattle.bb_memory_traits.specs.Chunk.{Chunk, IsInside, IsRegion, Region}
use Rattle.bb_memory_traits.specs.declared.allocator.AllocationError.{AllocationError}
use Rattle.bb_memory_traits.specs.declared.layout.Layout.{Layout}
use Rattle.std.specs.Prelude.{All, IfOk, List, Result, length, ℕ, ◌%◌, ◌+◌, ◌<◌, ◌↔◌, ◌≡◌, ◌≢◌, ◌≤◌}

-- a shared bump, and its parties that haven't joined
abbrev pub BumpParties : Type 0
BumpParties = Parties SharedBump BumpParty

-- the party is of this bump, and one of its parties has joined
abbrev pub IsAt : BumpParties → BumpParty → Type 0
IsAt all party = IsOneOf all party.allocator all.shared.scene.parties

-- if the party's bump begins where this one does, it is this one
abbrev pub Knows : BumpParties → BumpParty → Type 0
Knows all party = AreKnown (λ bump. bump.scene.region.start) party.allocator all.shared

-- how a shared bump describes its parties: one that leaves is unchanged
abbrev pub sharing_bump : Sharing BumpParties BumpParty
sharing_bump = record {
  unjoined = count_unjoined;
  with_party = with_party;
  joins = IsAt;
  at = IsAt;
  leaves = λ party after. after ≡ party;
}

-- some of the bump's `count` parties, with room for all of them
pub record AreUnjoined (bump : SharedBump) (count capacity : ℕ) (parties : List BumpParty) : Type 0 where
  pub so_many : bump.scene.parties ≡ count
  pub at_most : length parties ≤ count
  pub room : count ≤ capacity
  pub theirs : All (λ party. party.allocator ≡ bump) parties

-- a bump over the region with nothing used, and all of its parties, which have made no step
pub record AreFreshOver (region : Region) (count : ℕ) (all : BumpParties) : Type 0 where
  pub scene : all.shared.scene ≡ scene_at region 0 count
  pub parties : AreFresh all.shared count all.parties

-- the region is valid, and there is at least one party
pub record IsShareable (region : Region) (parties : ℕ) : Type 0 where
  pub is_region : IsRegion region
  pub some : 1 ≤ parties

-- The answer to a party's request: the chunk that it won, or the reason why it won none. Each
-- position that it found is at least the party's floor, so its chunk begins at the floor or after
-- it.
pub record GivesChunk (party : BumpParty) (layout : Layout) (result : Result Chunk AllocationError) (after : BumpParty)
    : Type 0 where
  pub answer : MayTake party layout result after
  pub found : (added : BumpLog) → after ≡ with_entries party added → IsFoundBy party added
  pub floor : IfOk result (λ chunk. party.allocator.scene.region.start + floor_of party ≤ chunk.place)
  pub inside : IfOk result (IsInside party.allocator.scene.region)
  pub aligned : IfOk result (λ chunk. chunk.place % layout.align ≡ 0)

-- C gets the bump's figures, as one load found them; the party's log has the load
abbrev pub ShowsLoad : BumpParty → BumpInfo → BumpParty → Type 0
ShowsLoad party info after =
    (used : ℕ) × (info ≡ bump_info party.allocator.scene.region used) × HasLoaded party.allocator party used after

-- A bump is destroyed if each party has left. Otherwise C gets BB_PARTIES_JOINED.
pub record TellsDestroy (all : BumpParties) (code : ℕ) : Type 0 where
  pub joined : (code ≡ parties_joined) ↔ (count_unjoined all < all.shared.scene.parties)
  pub destroyed : code ≢ parties_joined → code ≡ ok

-- The bump is fresh over its region, with the same number of parties, if each has left and memory
-- doesn't run out.
pub record TellsReset (all after : BumpParties) (code : ℕ) : Type 0 where
  pub begun : code ≡ ok → AreFreshOver all.shared.scene.region all.shared.scene.parties after
  pub out : (code ≡ parties_joined) ↔ (count_unjoined all < all.shared.scene.parties)
  pub else_memory : code ≢ ok → code ≢ parties_joined → code ≡ malloc_refused
  pub unchanged : code ≢ ok → after ≡ all
