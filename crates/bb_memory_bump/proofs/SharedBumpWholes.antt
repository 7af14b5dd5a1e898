-- All parties of a bump, when they have met.
use Rattle.bb_memory_bump.proofs.SharedBumpHistories.{held_in_list}
use Rattle.bb_memory_bump.specs.SharedBump.{AgreeAt, BumpParty, BumpStep, HaveChunksApart, IsSharedScene}
use Rattle.bb_memory_bump_machine.proofs.BumpAllowed.{first_allowed, nobody_else, rest_allowed}
use Rattle.bb_memory_bump_machine.proofs.BumpMeetings.{chunks_apart}
use Rattle.bb_memory_bump_machine.proofs.BumpPositions.{interleaving_stands}
use Rattle.bb_memory_bump_machine.proofs.BumpSteps.{step_view}
use Rattle.bb_memory_bump_machine.proofs.BumpWholes.{owner_of}
use Rattle.bb_memory_bump_machine.specs.BumpLogs.{AllAllowed, BumpEntry, BumpLog, HasLog, Interleaving, OpensWith, bump_history, chunks_won, history_of, is_by, live_after, log_of}
use Rattle.bb_memory_bump_machine.specs.BumpMachine.{BumpScene, BumpState, bump_step, opening_state}
use Rattle.bb_memory_lists.proofs.ListEntries.{contains_at, stands_in_log}
use Rattle.bb_memory_traits.specs.BumpObject.{StandsFor}
use Rattle.bb_memory_traits.specs.Chunk.{Chunk, Region}
use Rattle.std.proofs.Common.{List, Some, [], length, refl, true, ℕ, ◌∷◌, ◌≡◌, ◌≢◌}
use Rattle.std.proofs.lemmas.List.Elements.{All-contains, All-contains_itself, All-from_recursion, All-weaker}
use Rattle.std.specs.List.{All, AllByRecursion}
use Rattle.std.specs.Prelude.{Any, Contains, slice_get}

-- the entry is that of a step of some party
abbrev IsSomeones : BumpEntry → Type 0
IsSomeones entry = (party : ℕ) × (is_by party entry.step ≡ true)

each_someones : (region : Region) (state : BumpState) (steps : List BumpStep) → AllAllowed (bump_history region state steps) →
    AllByRecursion IsSomeones (bump_history region state steps)
each_someones region state [] allowed = tt
each_someones region state (step ∷ steps) allowed =
    let move = bump_step region state step in
    let owner = owner_of region state step move (step_view region state step)
    (first_allowed region state step steps allowed) in (
      (owner.party, owner.own),
      each_someones region move.state steps (rest_allowed region state step steps allowed),
    )

module _ (scene : BumpScene) (position : ℕ) (parties : List BumpParty) (met : AgreeAt scene position parties) where
  pub met_apart : (i j : ℕ) (one other : BumpParty) → IsSharedScene scene → slice_get parties i ≡ Some one →
      slice_get parties j ≡ Some other → i ≢ j → HaveChunksApart one.log other.log
  met_apart i j one other shared at at_other apart =
      let HasIts : BumpParty → Type 0 = λ party. HasLog met.logs party.number party.log in
      let its = All-contains HasIts parties one met.theirs (contains_at parties i one at) in
      let its_other = All-contains HasIts parties other met.theirs (contains_at parties j other at_other) in
      chunks_apart scene position met.logs one.number one.log other.number other.log shared.opening met.agree its its_other
      (met.differ i j one other at at_other apart)

  abbrev steps : List BumpStep
  steps = met.agree.steps

  abbrev history : BumpLog
  history = history_of scene steps

  pub met_logged : All (λ party. log_of scene steps party.number ≡ party.log) parties
  met_logged k d below = met.agree.each _ _ (met.theirs k d below)

  -- the list of steps is an interleaving of each one's log
  abbrev interleaving_of : (party : BumpParty) → log_of scene steps party.number ≡ party.log →
      Interleaving scene party.number party.log position
  interleaving_of party logged =
      record { steps = steps; allowed = met.agree.allowed; leaves = met.agree.leaves; logged = logged }

  pub met_stands : (live : List Chunk) → OpensWith scene live → StandsFor scene.region position (live_after scene live steps)
  met_stands live opens =
      interleaving_stands scene position scene.parties (log_of scene steps scene.parties) live
      (record { steps = steps; allowed = met.agree.allowed; leaves = met.agree.leaves; logged = refl }) opens

  pub met_held : (live : List Chunk) →
      All (λ party. All (Contains (live_after scene live steps)) (chunks_won party.log)) parties
  met_held live =
      All-weaker (λ (party : BumpParty). log_of scene steps party.number ≡ party.log)
      (λ party. All (Contains (live_after scene live steps)) (chunks_won party.log))
      (λ party logged. held_in_list scene live position party.number party.log (interleaving_of party logged))
      parties met_logged

  -- an entry whose step is that of a number is in the log of the party with this number
  numbered : (entry : BumpEntry) (number : ℕ) → length parties ≡ scene.parties → Contains history entry →
      is_by number entry.step ≡ true → Any (λ party. Contains party.log entry) parties
  numbered entry number all there by =
      stands_in_log (λ (party : BumpParty). party.number) (λ party. party.log) (λ n other. is_by n other.step)
      history scene.parties
      parties (met.whole all).0 met_logged (λ n past. nobody_else scene steps n past met.agree.allowed) entry number there by

  -- each step is in the log of one that met
  pub met_nobody_else : length parties ≡ scene.parties → All (λ entry. Any (λ party. Contains party.log entry) parties) history
  met_nobody_else all =
      let state = opening_state scene in
      let each = All-from_recursion IsSomeones history (each_someones scene.region state steps met.agree.allowed) in
      All-weaker (Contains history) (λ entry. Any (λ party. Contains party.log entry) parties)
      (λ entry there. let by = All-contains IsSomeones history entry each there in numbered entry by.0 all there by.1)
      history (All-contains_itself history)
