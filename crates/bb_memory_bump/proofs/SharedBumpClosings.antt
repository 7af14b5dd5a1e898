-- The last state, as far as the view of a seat determines it.
use Rattle.atomic_table.specs.Seated.{TableId}
use Rattle.atomic_table.specs.Table.{Final, Me, Seen}
use Rattle.bb_memory_bump.proofs.SharedBumpMeetings.{told_by}
use Rattle.bb_memory_bump.specs.SharedBump.{BumpParty, HasChunksWithin}
use Rattle.bb_memory_bump.specs.SharedBumpRule.{AfterMeetingLoad, IsPartySeat, NumberedLog, SeatView, WordsAndLogsAgree, met_by, party_in}
use Rattle.bb_memory_bump_machine.proofs.BumpPositions.{interleaved, seen_below}
use Rattle.bb_memory_bump_machine.proofs.BumpWholes.{alone_exact, ends_by}
use Rattle.bb_memory_bump_machine.specs.BumpLogs.{BumpLog, HasLog, Interleaving, seen_in}
use Rattle.bb_memory_bump_machine.specs.BumpMachine.{BumpScene}
use Rattle.bb_memory_seats.specs.Seats.{numbered, view_log}
use Rattle.std.proofs.Common.{List, [], ap, arith, subst, sym, ℕ, ◌∙◌, ◌∷◌, ◌≡◌, ◌≤◌}
use lib.ListN.{get_elem?}
use mathlib.Core.Option.{some, some-injective}

pub closes : (scene : BumpScene) (seat : ℕ) (view : SeatView) (words homes : List ℕ) (position : ℕ) →
    Final (Seen (WordsAndLogsAgree scene) seat view) words homes →
    get_elem? words 0 ≡ some position →
    AfterMeetingLoad scene view.parties (met_by view) position
closes scene seat view words homes position last at =
    let state = last.0 in
    let rule = last.1.0 in
    let found : rule.position ≡ position =
    some-injective _ _ (ap (λ (l : List ℕ). get_elem? l 0) (sym rule.words ∙ last.2) ∙ at) in
    subst (AfterMeetingLoad scene view.parties (met_by view)) found (told_by scene state rule seat view last.1.1)

-- The last position, to a party with this log: it is at least what the party had seen and what its
-- last meeting had found, and at most the size. Some interleaving leaves it, and it is exactly what
-- the party had seen if there is no other.
pub record AfterLast (scene : BumpScene) (number : ℕ) (log : BumpLog) (met last : ℕ)
    : Type 0 where
  pub interleaved : Interleaving scene number log last
  pub seen : seen_in scene log ≤ last
  pub above : met ≤ last
  pub within : last ≤ scene.region.size
  pub exact : scene.parties ≡ 1 → last ≡ seen_in scene log
  pub chunks : HasChunksWithin scene.region log last

-- the facts about the last position, for the only party
pub last_known : (scene : BumpScene) (number : ℕ) (log : BumpLog) (met last : ℕ) →
    AfterMeetingLoad scene (numbered number log ∷ []) met last → AfterLast scene number log met last
last_known scene number log met last told =
    let have = told.theirs in
    let seen = seen_below scene last told.logs number log told.agree have.1 in record {
      interleaved = interleaved scene last told.logs number log told.agree have.1;
      seen = seen;
      above = told.above;
      within = told.within;
      exact = λ one. let there = have.0 in let first : number ≡ 0 = omega arith in
          alone_exact scene last told.logs log one told.agree (subst (λ (p : ℕ). HasLog told.logs p log) first have.1);
      chunks = ends_by scene log last seen;
    }

-- the facts about the last position, for a party by its fields
pub last_of : (table : TableId) (scene here : BumpScene) (number : ℕ) (me : Me ℕ SeatView) (party : BumpParty) (last : ℕ) →
    IsPartySeat number me → party_in table number me.0 ≡ party → scene ≡ here →
    AfterMeetingLoad scene me.0.parties (met_by me.0) last → AfterLast here party.number party.log party.met last
last_of table scene here number me party last fields view_is same told =
    let own = subst (λ (parties : List NumberedLog). AfterMeetingLoad scene parties (met_by me.0) last)
    (ap (λ (m : Me ℕ SeatView). m.0.parties) fields.seat.seat.is) told in
    subst (λ (x : BumpScene × BumpParty). AfterLast x.0 x.1.number x.1.log x.1.met last) (λ i. (same i, view_is i))
    (last_known scene number (view_log me.0) (met_by me.0) last own)
