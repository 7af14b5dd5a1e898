-- A load by a seat of several parties: how the parties agree with the flags, and what two of them
-- know about each other.
use Rattle.atomic_table.proofs.Lists.{set_again}
use Rattle.atomic_table.specs.Table.{Allows, Me, State, keeps, step}
use Rattle.bb_memory_pool_machine.proofs.PoolLogFacts.{interleaved_logs, logs_apart}
use Rattle.bb_memory_pool_machine.specs.PoolLogs.{PoolLog}
use Rattle.bb_memory_pool_machine.specs.PoolMachine.{PoolScene}
use Rattle.bb_memory_pool_machine.specs.declared.steps.pool.Flag.{Flag}
use Rattle.bb_memory_seats.proofs.Seatings.{once_in, two_parties}
use Rattle.bb_memory_seats.specs.Seats.{numbered, standing_for}
use Rattle.bb_memory_shared_pools.proofs.FlagWords.{flag_there}
use Rattle.bb_memory_shared_pools.specs.FlagWords.{as_word, flags_in}
use Rattle.bb_memory_shared_pools.specs.SharedPoolRule.{AfterMeeting, AfterMeetingLoad, AfterMeetingLook, NumberedLog, SeatView, WordsAndLogsAgree, meets}
use Rattle.std.proofs.Common.{List, Some, [], get_or, refl, set, subst, sym, ℕ, ◌∷◌, ◌≡◌}
use Rattle.std.proofs.lemmas.List.{set-get_or}
use Rattle.std.specs.Prelude.{slice_get}
use lib.ListN.{get_elem?}
use mathlib.Core.Option.{none, some}

-- the rule, by the view of a seat
told_by : (scene : PoolScene) (state : State ℕ SeatView) (rule : WordsAndLogsAgree scene state) (seat : ℕ)
    (view : SeatView) → get_elem? state.views seat ≡ some view → AfterMeetingLoad scene view.parties
told_by scene state rule seat view at = record {
  flags = flags_in rule.marks;
  logs = rule.logs;
  agree = rule.agree;
  one_a_party = rule.one_a_party;
  theirs = rule.seated.known seat view at;
  once = once_in scene.parties rule.logs state.views seat view rule.seated at;
}

-- the rule, by the view of a seat and the mark of a bucket
pub looked_at : (scene : PoolScene) (state : State ℕ SeatView) (rule : WordsAndLogsAgree scene state) (seat : ℕ)
    (view : SeatView) → get_elem? state.views seat ≡ some view → (bucket found : ℕ) (mark : Flag) → found ≡ as_word mark →
    slice_get rule.marks bucket ≡ Some mark → AfterMeetingLook scene view.parties bucket found
unfolding told_by
looked_at scene state rule seat view at bucket found mark word there = record {
  met = told_by scene state rule seat view at;
  mark = mark;
  word = word;
  there = flag_there rule.marks bucket mark there;
}

-- a load that changes nothing
pub unchanged : (scene : PoolScene) (state : State ℕ SeatView) (seat word : ℕ) (view : SeatView) →
    get_elem? state.views seat ≡ some view → WordsAndLogsAgree scene state →
    WordsAndLogsAgree scene record {
      words = set state.words word (get_or state.words word 0);
      homes = state.homes;
      views = set state.views seat view;
    }
unchanged scene state seat word view at rule =
    let words = set-get_or state.words word 0 in
    let views = set_again state.views seat view at in
    subst (λ (s : List ℕ × List SeatView). WordsAndLogsAgree scene record { words = s.0; homes = state.homes; views = s.1 })
    (λ i. (sym words i, sym views i)) rule

meets_at : (scene : PoolScene) (slots seat word : ℕ) (parties : List NumberedLog) →
    let view = standing_for scene parties in
    Allows (WordsAndLogsAgree scene) slots seat (view, []) word (λ found. found) (meets (step slots word 0 0 none) (view, []))
meets_at scene slots seat word parties state rule homes at fits =
    let view : SeatView = standing_for scene parties in
    (view, keeps, tt, unchanged scene state seat word view at rule, (refl, told_by scene state rule seat view at))

pub meets_as : (scene : PoolScene) (slots seat word : ℕ) (parties : List NumberedLog) (me : Me ℕ SeatView) →
    me ≡ (standing_for scene parties, []) →
    Allows (WordsAndLogsAgree scene) slots seat me word (λ found. found) (meets (step slots word 0 0 none) me)
meets_as scene slots seat word parties me is =
    subst (λ (m : Me ℕ SeatView). Allows (WordsAndLogsAgree scene) slots seat m word (λ found. found)
    (meets (step slots word 0 0 none) m)) (sym is) (meets_at scene slots seat word parties)

-- the result of a meeting of two parties
pub two_met : (scene : PoolScene) (number : ℕ) (log : PoolLog) (other : ℕ) (other_log : PoolLog) →
    AfterMeetingLoad scene (numbered other other_log ∷ numbered number log ∷ []) → AfterMeeting scene number log other other_log
two_met scene number log other other_log told =
    let have = told.theirs in
    let differ = two_parties (numbered other other_log) (numbered number log) [] (told.once other have.0) in
    let apart = λ (same : number ≡ other). differ (sym same) in record {
      differ = apart;
      apart = λ bucket held other_held. apart
          (logs_apart scene told.flags told.logs number log other other_log bucket told.agree have.2.1 have.1 held other_held);
      interleaved = interleaved_logs scene told.flags told.logs number log other other_log told.agree have.2.1 have.1;
    }
