-- A load by a seat of several parties: how the parties agree with the position, and what two of
-- them know about each other.
use Rattle.atomic_table.specs.Table.{Allows, Me, State, keeps, step}
use Rattle.bb_memory_bump.proofs.SharedBumpFloors.{met_set}
use Rattle.bb_memory_bump.specs.SharedBumpRule.{AfterMeeting, AfterMeetingLoad, NumberedLog, SeatView, WordsAndLogsAgree, meeting_of, meets, met_by, sight}
use Rattle.bb_memory_bump_machine.proofs.BumpMeetings.{chunks_apart}
use Rattle.bb_memory_bump_machine.proofs.BumpPositions.{both_interleaved, position_within, seen_below}
use Rattle.bb_memory_bump_machine.proofs.BumpWholes.{ends_by}
use Rattle.bb_memory_bump_machine.specs.BumpLogs.{BumpLog}
use Rattle.bb_memory_bump_machine.specs.BumpMachine.{BumpScene}
use Rattle.bb_memory_seats.proofs.Seatings.{once_in, seated_again, two_parties}
use Rattle.bb_memory_seats.specs.Seats.{numbered, standing_for}
use Rattle.std.proofs.Common.{List, [], ap, arith, get_or, refl, set, subst, sym, ℕ, ◌∷◌, ◌≡◌}
use lib.ListN.{get_elem?}
use mathlib.Core.Option.{none, some}

-- the rule, by the view of a seat
pub told_by : (scene : BumpScene) (state : State ℕ SeatView) (rule : WordsAndLogsAgree scene state) (seat : ℕ)
    (view : SeatView) → get_elem? state.views seat ≡ some view →
    AfterMeetingLoad scene view.parties (met_by view) rule.position
told_by scene state rule seat view at = record {
  above = rule.met seat view at;
  within = position_within scene rule.position rule.logs rule.opened rule.agree;
  opened = rule.opened;
  logs = rule.logs;
  agree = rule.agree;
  one_a_party = rule.one_a_party;
  theirs = rule.seated.known seat view at;
  once = once_in scene.parties rule.logs state.views seat view rule.seated at;
}

meets_at : (scene : BumpScene) (slots seat met : ℕ) (parties : List NumberedLog) →
    let view = standing_for (sight scene met) parties in
    Allows (WordsAndLogsAgree scene) slots seat (view, []) 0 (λ found. found) (meets (step slots 0 0 0 none) (view, []))
meets_at scene slots seat met parties state rule _ at _ =
    let view : SeatView = standing_for (sight scene met) parties in
    let found : ℕ = get_or state.words 0 0 in
    let word : found ≡ rule.position = ap (λ (words : List ℕ). get_or words 0 0) rule.words in
    let same : set state.words 0 found ≡ rule.position ∷ [] =
    ap (λ (words : List ℕ). set words 0 (get_or words 0 0)) rule.words in (
      meeting_of found view,
      keeps,
      tt,
      record {
        position = rule.position;
        logs = rule.logs;
        agree = rule.agree;
        words = same;
        opened = rule.opened;
        one_a_party = rule.one_a_party;
        seated = seated_again scene.parties rule.logs state.views seat view (sight scene found) rule.seated at;
        met = met_set state.views seat (meeting_of found view) rule.position rule.position rule.met (omega arith)
            (omega (arith, word));
      },
      (refl, subst (AfterMeetingLoad scene parties met) (sym word) (told_by scene state rule seat view at)),
    )

pub meets_as : (scene : BumpScene) (slots seat met : ℕ) (parties : List NumberedLog) (me : Me ℕ SeatView) →
    me ≡ (standing_for (sight scene met) parties, []) →
    Allows (WordsAndLogsAgree scene) slots seat me 0 (λ found. found) (meets (step slots 0 0 0 none) me)
meets_as scene slots seat met parties me is =
    subst (λ (m : Me ℕ SeatView). Allows (WordsAndLogsAgree scene) slots seat m 0 (λ found. found)
    (meets (step slots 0 0 0 none) m)) (sym is)
    (meets_at scene slots seat met parties)

-- the result of a meeting of two parties
pub two_met : (scene : BumpScene) (number : ℕ) (log : BumpLog) (other : ℕ) (other_log : BumpLog) (met found : ℕ) →
    AfterMeetingLoad scene (numbered other other_log ∷ numbered number log ∷ []) met found →
    AfterMeeting scene number log other other_log found
two_met scene number log other other_log met found told =
    let have = told.theirs in
    let differ = two_parties (numbered other other_log) (numbered number log) [] (told.once other have.0) in
    let apart = λ (same : number ≡ other). differ (sym same) in
    let seen = seen_below scene found told.logs number log told.agree have.2.1 in
    let other_seen = seen_below scene found told.logs other other_log told.agree have.1 in record {
      differ = apart;
      apart = chunks_apart scene found told.logs number log other other_log told.opened told.agree have.2.1 have.1 apart;
      interleaved = both_interleaved scene found told.logs number log other other_log told.agree have.2.1 have.1;
      seen = (seen, other_seen);
      within = told.within;
      chunks = (ends_by scene log found seen, ends_by scene other_log found other_seen);
    }
