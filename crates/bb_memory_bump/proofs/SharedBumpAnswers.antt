-- The answer and the party of a request that has ended.
use Rattle.atomic_table.specs.Seated.{TableId}
use Rattle.atomic_table.specs.Table.{Me}
use Rattle.bb_memory_bump.specs.Bump.{AllocationError, Layout, OutOfMemory}
use Rattle.bb_memory_bump.specs.SharedBump.{BumpParty, IsAnsweredAt, IsFoundBy, IsRefused, IsWon, MayTake, floor_of, seen_by, with_entries}
use Rattle.bb_memory_bump.specs.SharedBumpRule.{AfterCall, AfterRefusal, AfterWin, SeatView, met_by, party_in}
use Rattle.bb_memory_bump_machine.proofs.BumpBounds.{won_grows}
use Rattle.bb_memory_bump_machine.specs.BumpLogs.{BumpLog, chunks_won, losses_in, seen_in}
use Rattle.bb_memory_bump_machine.specs.BumpMachine.{BumpScene, chunk_at}
use Rattle.bb_memory_seats.specs.Seats.{number_of, view_log}
use Rattle.bb_memory_traits.proofs.LiveLists.{StandsFor-end}
use Rattle.bb_memory_traits.specs.BumpObject.{chunk_at_or_after, next_chunk}
use Rattle.bb_memory_traits.specs.Chunk.{Chunk, chunk_end, region_end}
use Rattle.std.proofs.Common.{Err, List, Ok, Result, [], ap, append-nil, arith, length, subst, sym, ℕ, ◌++◌, ◌+◌, ◌<◌, ◌∙◌, ◌∷◌, ◌≡◌, ◌≤◌}
use Rattle.std.proofs.Math.Seq.{drop-append_seam}
use Rattle.std.proofs.lemmas.Bool.{leb-false}
use Rattle.std.specs.Prelude.{IfOk, OnErr, drop, max}

-- ENTRIES

-- the entries that were added to a party's log, by the party
added_once : (party : BumpParty) (added other : BumpLog) → with_entries party other ≡ with_entries party added → other ≡ added
added_once party added other same =
    sym (drop-append_seam party.log other)
    ∙ ap (λ (p : BumpParty). drop (length party.log) p.log) same
    ∙ drop-append_seam party.log added

nothing_added : (party : BumpParty) (added : BumpLog) → party ≡ with_entries party added → [] ≡ added
nothing_added party added same =
    added_once party added []
    ((λ i. record { allocator = party.allocator; number = party.number; log = append-nil party.log i; met = party.met }) ∙ same)

-- if no step was made
pub nothing_found : (party : BumpParty) (added : BumpLog) → party ≡ with_entries party added → IsFoundBy party added
nothing_found party added same = grind (arith, nothing_added)

pub nothing_lost : (party : BumpParty) (added : BumpLog) (most : ℕ) → party ≡ with_entries party added → losses_in added ≤ most
nothing_lost party added most same = grind (arith, nothing_added)

-- REQUESTS THAT MADE STEPS

-- the facts about a request's answer and its party
pub record Says (scene : BumpScene) (party new : BumpParty) (layout : Layout) (told : Result Chunk AllocationError)
    : Type 0 where
  pub answer : MayTake party layout told new
  pub found : (other : BumpLog) → new ≡ with_entries party other → IsFoundBy party other
  pub losses : (other : BumpLog) → new ≡ with_entries party other → losses_in other ≤ scene.region.size
  pub won : IfOk told (λ chunk. chunks_won new.log ≡ chunks_won party.log ++ chunk ∷ [])
  pub none_won : OnErr told (chunks_won new.log ≡ chunks_won party.log)
  pub floor : IfOk told (λ chunk. scene.region.start + floor_of party ≤ chunk.place)
  pub alone : scene.parties ≡ 1 → IsAnsweredAt scene.region (seen_by party) layout told

-- a party before a request and after it, by its fields
module _ (scene : BumpScene) (table was : TableId) (number : ℕ) (old new : Me ℕ SeatView) (party : BumpParty)
    (same : table ≡ was) (view_is : party_in was number old.0 ≡ party)
    (scene_is : party.allocator.scene ≡ scene) where
  log_is : view_log old.0 ≡ party.log
  log_is = ap (λ (p : BumpParty). p.log) view_is

  met_is : met_by old.0 ≡ party.met
  met_is = ap (λ (p : BumpParty). p.met) view_is

  then : (added : BumpLog) → AfterCall scene (number_of old.0) (view_log old.0) (met_by old.0) added new →
      party_in table number new.0 ≡ with_entries party added
  then added ended = grind arith

  found_by : (added : BumpLog) → AfterCall scene (number_of old.0) (view_log old.0) (met_by old.0) added new →
      (other : BumpLog) → party_in table number new.0 ≡ with_entries party other → IsFoundBy party other
  found_by added ended other is = grind (arith, added_once)

  lost_by : (added : BumpLog) → AfterCall scene (number_of old.0) (view_log old.0) (met_by old.0) added new →
      (other : BumpLog) → party_in table number new.0 ≡ with_entries party other → losses_in other ≤ scene.region.size
  lost_by added ended other is =
      subst (λ (entries : BumpLog). losses_in entries ≤ scene.region.size)
      (sym (added_once party added other (sym is ∙ then added ended))) ended.counted.losses

  -- the chunks that its log has won
  won_by : (added : BumpLog) (won : List Chunk) →
      AfterCall scene (number_of old.0) (view_log old.0) (met_by old.0) added new →
      chunks_won added ≡ won → chunks_won (view_log new.0) ≡ chunks_won party.log ++ won
  won_by added won ended won_is = grind (arith, won_grows)

  -- a request of this layout by the party
  module _ (layout : Layout) (asks : 0 < layout.size) (own : number_of old.0 ≡ number) where
    told_to : number_of old.0 ≡ party.number
    told_to = own ∙ ap (λ (p : BumpParty). p.number) view_is

    pub says_won : (chunk : Chunk) → AfterWin scene (number_of old.0) (view_log old.0) (met_by old.0) layout new chunk →
        Says scene party (party_in table number new.0) layout (Ok chunk)
    says_won chunk won = record {
      answer = (
        asks,
        won.added,
        subst (λ (x : BumpScene × ℕ). IsWon x.0.region x.1 layout won.added chunk) (λ i. (sym scene_is i, told_to i)) won.won,
        then won.added won.ended,
      );
      found = found_by won.added won.ended;
      losses = lost_by won.added won.ended;
      won = won_by won.added (chunk ∷ []) won.ended won.chunks;
      none_won = tt;
      floor = subst (λ (x : BumpScene × BumpLog × ℕ). scene.region.start + max (seen_in x.0 x.1) x.2 ≤ chunk.place)
          (λ i. (sym scene_is i, log_is i, met_is i)) won.behind;
      alone = λ one. subst (λ (x : BumpScene × BumpLog). IsAnsweredAt scene.region (seen_in x.0 x.1) layout (Ok chunk))
          (λ i. (sym scene_is i, log_is i))
          (λ live stands. let end = StandsFor-end scene.region (seen_in scene (view_log old.0)) live stands in
          (asks, won.below, won.alone one ∙ ap (λ (v : ℕ). chunk_at_or_after v layout) (omega (arith, end))));
    }

    pub says_refused : AfterRefusal scene (number_of old.0) (view_log old.0) (met_by old.0) layout new →
        Says scene party (party_in table number new.0) layout (Err OutOfMemory)
    says_refused refused = record {
      answer = (
        asks,
        refused.added,
        subst (λ (x : BumpScene × ℕ). IsRefused x.0.region x.1 layout refused.added)
            (λ i. (sym scene_is i, told_to i)) refused.refused,
        then refused.added refused.ended,
      );
      found = found_by refused.added refused.ended;
      losses = lost_by refused.added refused.ended;
      won = tt;
      none_won = won_by refused.added [] refused.ended refused.chunks ∙ append-nil (chunks_won party.log);
      floor = tt;
      alone = λ one.
          let seen = seen_in scene (view_log old.0) in
          subst (λ (x : BumpScene × BumpLog). IsAnsweredAt scene.region (seen_in x.0 x.1) layout (Err OutOfMemory))
          (λ i. (sym scene_is i, log_is i))
          (λ live stands. let end = StandsFor-end scene.region seen live stands in
          let same : chunk_end (chunk_at scene.region seen layout) ≡ chunk_end (next_chunk scene.region live layout) =
          ap (λ (v : ℕ). chunk_end (chunk_at_or_after v layout)) (omega (arith, end)) in
          let past = leb-false (chunk_end (chunk_at scene.region seen layout)) (region_end scene.region) (refused.alone one) in
          (asks, omega (arith, same, past)));
    }
