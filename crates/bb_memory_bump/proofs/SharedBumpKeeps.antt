-- Each atomic step keeps word and logs in agreement.
use Rattle.atomic_table.proofs.Lists.{exchanged}
use Rattle.atomic_table.specs.Table.{Allows, Me, State, carried_after, keeps, step}
use Rattle.bb_memory_bump.proofs.SharedBumpFloors.{met_set}
use Rattle.bb_memory_bump.proofs.SharedLogs.{seen_next}
use Rattle.bb_memory_bump.specs.Bump.{Layout}
use Rattle.bb_memory_bump.specs.SharedBump.{BumpOutcome, BumpStep, Exchange, Load, Loaded, Loses, Read, RefusedAtLoss, RefusedAtRead, Sees, Wins}
use Rattle.bb_memory_bump.specs.SharedBumpRule.{AfterStep, SeatView, WordsAndLogsAgree, exchanges, loads, reads, sight}
use Rattle.bb_memory_bump_machine.proofs.BumpLogs.{exchange_agrees, load_agrees, read_agrees}
use Rattle.bb_memory_bump_machine.proofs.BumpPositions.{interleaved, position_within, seen_below}
use Rattle.bb_memory_bump_machine.proofs.BumpRuns.{chunk_at-above}
use Rattle.bb_memory_bump_machine.proofs.BumpWholes.{alone_exact, greater_of-above}
use Rattle.bb_memory_bump_machine.specs.BumpLogs.{BumpLog, HasLog, Interleaving, LogsAgree, call_in, entry_of, greater_of, position_in, seen_in, with_entry}
use Rattle.bb_memory_bump_machine.specs.BumpMachine.{BumpScene, OngoingCall, chunk_at, ending, exchange_move, fits, position_behind, read_move, seeing}
use Rattle.bb_memory_lists.proofs.SliceGets.{length-set_at, slice_get-set_same}
use Rattle.bb_memory_seats.proofs.Seatings.{seated_step}
use Rattle.bb_memory_seats.specs.Seats.{alone}
use Rattle.std.proofs.Common.{Bool, List, None, Option, Some, [], ap, arith, eq-eqb, eqb, false, get_or, ne_eqb, refl, set, subst, sym, true, ℕ, ◌++◌, ◌<◌, ◌∙◌, ◌∷◌, ◌≡◌, ◌≢◌, ◌≤◌}
use Rattle.std.proofs.lemmas.Option.{same_Some}
use Rattle.std.specs.Prelude.{if◌then◌else◌, ◌==◌}
use lib.ListN.{get_elem?}
use mathlib.Core.Option.{none, some}
use prog.Atomic.{either}

-- ONE STEP

-- the facts of the rule about a party with this log
pub record IsKnown (scene : BumpScene) (state : State ℕ SeatView) (rule : WordsAndLogsAgree scene state) (party : ℕ)
    (log : BumpLog) : Type 0 where
  pub there : party < scene.parties
  pub own : HasLog rule.logs party log
  pub word : get_or state.words 0 0 ≡ rule.position
  pub seen : seen_in scene log ≤ rule.position
  pub within : rule.position ≤ scene.region.size

pub known_as : (scene : BumpScene) (state : State ℕ SeatView) (rule : WordsAndLogsAgree scene state) (party : ℕ) (log : BumpLog) →
    party < scene.parties → HasLog rule.logs party log → IsKnown scene state rule party log
known_as scene state rule party log there own = record {
  there = there;
  own = own;
  word = ap (λ (words : List ℕ). get_or words 0 0) rule.words;
  seen = seen_below scene rule.position rule.logs party log rule.agree own;
  within = position_within scene rule.position rule.logs rule.opened rule.agree;
}

pub known : (scene : BumpScene) (state : State ℕ SeatView) (rule : WordsAndLogsAgree scene state)
    (seat party : ℕ) (log : BumpLog) (met : ℕ) →
    get_elem? state.views seat ≡ some (alone (sight scene met) party log) → IsKnown scene state rule party log
known scene state rule seat party log met at =
    let have = rule.seated.known seat (alone (sight scene met) party log) at in known_as scene state rule party log have.0 have.1

-- the rule after a step of the machine, which leaves this position
step_keeps : (scene : BumpScene) (state : State ℕ SeatView) (rule : WordsAndLogsAgree scene state) (seat party : ℕ)
    (log : BumpLog) (met : ℕ) (kind : BumpStep) (outcome : BumpOutcome) (left : ℕ) →
    get_elem? state.views seat ≡ some (alone (sight scene met) party log) →
    LogsAgree scene left (with_entry rule.logs party log (entry_of kind outcome)) → rule.position ≤ left →
    WordsAndLogsAgree scene record {
      words = set state.words 0 left;
      homes = state.homes;
      views = set state.views seat (alone (sight scene met) party (log ++ entry_of kind outcome ∷ []));
    }
step_keeps scene state rule seat party log met kind outcome left at agree risen =
    let new = alone (sight scene met) party (log ++ entry_of kind outcome ∷ []) in
    let most = rule.met seat (alone (sight scene met) party log) at in
    record {
      position = left;
      logs = with_entry rule.logs party log (entry_of kind outcome);
      agree = agree;
      words = ap (λ (words : List ℕ). set words 0 left) rule.words;
      opened = rule.opened;
      one_a_party = length-set_at rule.logs party (log ++ entry_of kind outcome ∷ []) ∙ rule.one_a_party;
      seated =
          seated_step scene.parties rule.logs state.views seat (sight scene met) party log (log ++ entry_of kind outcome ∷ [])
          rule.seated at;
      met = met_set state.views seat new rule.position left rule.met risen (omega (arith, most, risen));
    }

-- if there is one party, the position is what it has seen
only_one : (scene : BumpScene) (state : State ℕ SeatView) (rule : WordsAndLogsAgree scene state) (party : ℕ) (log : BumpLog) →
    IsKnown scene state rule party log → scene.parties ≡ 1 → rule.position ≡ seen_in scene log
only_one scene state rule party log know one =
    let there = know.there in
    let first : party ≡ 0 = omega arith in
    alone_exact scene rule.position rule.logs log one rule.agree (subst (λ (p : ℕ). HasLog rule.logs p log) first know.own)

-- A step of the machine, in the form that the table needs: `left` is its effect on the word, and
-- the party has then seen the result.
step_tells : (scene : BumpScene) (slots seat party : ℕ) (log : BumpLog) (met : ℕ) (left : ℕ → ℕ) (kind : BumpStep)
    (outcome : ℕ → BumpOutcome) →
    ((logs : List BumpLog) (found : ℕ) → party < scene.parties → HasLog logs party log → LogsAgree scene found logs →
    LogsAgree scene (left found) (with_entry logs party log (entry_of kind (outcome found)))) →
    ((seen found : ℕ) → seen ≤ found → greater_of seen (position_in scene.region (outcome found)) ≡ left found) →
    Allows (WordsAndLogsAgree scene) slots seat (alone (sight scene met) party log, []) 0 left
    (λ found me. AfterStep scene party log met kind (outcome found) found me)
step_tells scene slots seat party log met left kind outcome fit sees state rule _ at _ =
    let know = known scene state rule seat party log met at in
    let word = know.word in
    let seen = know.seen in
    let within = know.within in
    let found : ℕ = get_or state.words 0 0 in
    let logs = with_entry rule.logs party log (entry_of kind (outcome found)) in
    let new = log ++ entry_of kind (outcome found) ∷ [] in
    let agree : LogsAgree scene (left found) logs =
    fit rule.logs found know.there know.own (subst (λ (n : ℕ). LogsAgree scene n rule.logs) (sym word) rule.agree) in
    let above : seen_in scene log ≤ found = omega arith in
    let most : met ≤ rule.position = rule.met seat (alone (sight scene met) party log) at in
    let raises : found ≤ left found = let up = greater_of-above found (position_in scene.region (outcome found)) in
    let same = sees found found (omega arith) in omega (arith, up, same) in
    let own : HasLog logs party new = slice_get-set_same rule.logs party new log know.own in
    let seen_now : left found ≡ seen_in scene new =
    sym (sees (seen_in scene log) found above) ∙ sym (seen_next scene log kind (outcome found)) in
    let explained = interleaved scene (left found) logs party new agree own in (
      alone (sight scene met) party new,
      keeps,
      tt,
      step_keeps scene state rule seat party log met kind (outcome found) (left found) at agree (omega (arith, word, raises)),
      record {
        seat = record {
          is = refl;
          interleaved = subst (Interleaving scene party new) seen_now explained;
          reached = subst (Interleaving scene party new) (omega (arith, seen_now, word, most, raises)) explained;
        };
        unchanged = refl;
        seen = above;
        above = omega (arith, word, most);
        within = omega arith;
        exact = λ one. word ∙ only_one scene state rule party log know one;
      },
    )

greater_of-found : (seen found : ℕ) → seen ≤ found → greater_of seen (Some found) ≡ found
greater_of-found seen found above = omega arith

-- LOADS

pub loads_as : (scene : BumpScene) (slots seat party : ℕ) (log : BumpLog) (met : ℕ) (me : Me ℕ SeatView) →
    me ≡ (alone (sight scene met) party log, []) →
    call_in log ≡ None →
    Allows (WordsAndLogsAgree scene) slots seat me 0 (λ found. found) (loads (step slots 0 0 0 none) me)
loads_as scene slots seat party log met me is idle =
    subst (λ (m : Me ℕ SeatView). Allows (WordsAndLogsAgree scene) slots seat m 0 (λ found. found)
    (loads (step slots 0 0 0 none) m)) (sym is)
    (step_tells scene slots seat party log met (λ found. found) (Load party) Loaded
    (λ logs found there own agree. load_agrees scene found logs party log agree own there idle)
    greater_of-found)

-- READS

read_sees : (scene : BumpScene) (seen found : ℕ) (layout : Layout) (fitting : Bool) → seen ≤ found →
    greater_of seen (position_in scene.region
    (if fitting then seeing (Sees found) found layout else ending (RefusedAtRead found) found).outcome) ≡ found
read_sees scene seen found layout true above = omega arith
read_sees scene seen found layout false above = omega arith

pub reads_as : (scene : BumpScene) (slots seat party : ℕ) (layout : Layout) (asked : Option Layout)
    (log : BumpLog) (met : ℕ) (me : Me ℕ SeatView) →
    me ≡ (alone (sight scene met) party log, []) → call_in log ≡ None → 0 < layout.size → asked ≡ Some layout →
    Allows (WordsAndLogsAgree scene) slots seat me 0 (λ found. found) (reads asked (step slots 0 0 0 none) me)
reads_as scene slots seat party layout asked log met me is idle asks for_it =
    subst (λ (m : Me ℕ SeatView × Option Layout). Allows (WordsAndLogsAgree scene) slots seat m.0 0 (λ found. found)
    (reads m.1 (step slots 0 0 0 none) m.0))
    (λ i. (sym is i, sym for_it i))
    (step_tells scene slots seat party log met (λ found. found) (Read party layout)
    (λ found. (read_move scene.region found layout).outcome)
    (λ logs found there own agree. read_agrees scene found logs party log layout agree own there idle asks)
    (λ seen found. read_sees scene seen found layout (fits scene.region found layout)))

-- EXCHANGES

-- the word after an exchange is the one of the machine
exchange_leaves : (scene : BumpScene) (found behind : ℕ) (call : OngoingCall) (same fitting : Bool) →
    either same behind found ≡
    (if same then ending (Wins (chunk_at scene.region found call.layout)) behind
    else (if fitting then seeing (Loses found) found call.layout else ending (RefusedAtLoss found) found)).position
exchange_leaves scene found behind call true fitting = refl
exchange_leaves scene found behind call false true = refl
exchange_leaves scene found behind call false false = refl

exchange_word : (scene : BumpScene) (found behind : ℕ) (call : OngoingCall) →
    behind ≡ position_behind scene.region (chunk_at scene.region call.seen call.layout) →
    either (eqb found call.seen) behind found ≡ (exchange_move scene.region found call).position
exchange_word scene found behind call is =
    let here = position_behind scene.region (chunk_at scene.region found call.layout) in
    let fitting = fits scene.region found call.layout in
    exchanged found call.seen behind (λ left. left ≡ (exchange_move scene.region found call).position)
    (λ (hit : found ≡ call.seen).
    is ∙ ap (λ (k : ℕ). position_behind scene.region (chunk_at scene.region k call.layout)) (sym hit)
    ∙ ap (λ (same : Bool). either same here found) (sym (eq-eqb found call.seen hit))
    ∙ exchange_leaves scene found here call (found == call.seen) fitting)
    (λ (miss : found ≢ call.seen).
    ap (λ (same : Bool). either same here found) (sym (ne_eqb found call.seen miss))
    ∙ exchange_leaves scene found here call (found == call.seen) fitting)

exchange_sees : (scene : BumpScene) (seen found : ℕ) (call : OngoingCall) (same fitting : Bool) → seen ≤ found →
    let behind = position_behind scene.region (chunk_at scene.region found call.layout) in
    let move = if same then ending (Wins (chunk_at scene.region found call.layout)) behind
    else (if fitting then seeing (Loses found) found call.layout else ending (RefusedAtLoss found) found) in
    greater_of seen (position_in scene.region move.outcome) ≡ move.position
exchange_sees scene seen found call true fitting above = omega (arith, chunk_at-above scene.region found call.layout)
exchange_sees scene seen found call false true above = omega arith
exchange_sees scene seen found call false false above = omega arith

exchanges_at : (scene : BumpScene) (slots seat party : ℕ) (call : OngoingCall) (behind : ℕ) (log : BumpLog) (met : ℕ) →
    call_in log ≡ Some call →
    behind ≡ position_behind scene.region (chunk_at scene.region call.seen call.layout) →
    Allows (WordsAndLogsAgree scene) slots seat (alone (sight scene met) party log, []) 0
    (λ found. either (eqb found call.seen) behind found)
    (λ found me. AfterStep scene party log met (Exchange party) (exchange_move scene.region found call).outcome found me)
exchanges_at scene slots seat party call behind log met in_call is =
    let left : ℕ → ℕ = λ found. either (eqb found call.seen) behind found in
    let outcome : ℕ → BumpOutcome = λ found. (exchange_move scene.region found call).outcome in
    step_tells scene slots seat party log met left (Exchange party) outcome
    (λ logs found there own agree.
    subst (λ (n : ℕ). LogsAgree scene n (with_entry logs party log (entry_of (Exchange party) (outcome found))))
    (sym (exchange_word scene found behind call is))
    (exchange_agrees scene found logs party log call agree own there in_call))
    (λ seen found above. exchange_sees scene seen found call (found == call.seen)
    (fits scene.region found call.layout) above
    ∙ sym (exchange_word scene found behind call is))

pub exchanges_as : (scene : BumpScene) (slots seat party : ℕ) (layout : Layout) (seen behind : ℕ)
    (log : BumpLog) (met : ℕ) (me : Me ℕ SeatView) →
    me ≡ (alone (sight scene met) party log, []) → call_in log ≡ Some (record { layout = layout; seen = seen }) →
    behind ≡ position_behind scene.region (chunk_at scene.region seen layout) →
    Allows (WordsAndLogsAgree scene) slots seat me 0 (λ found. either (eqb found seen) behind found)
    (exchanges (step slots 0 seen behind none) me)
exchanges_as scene slots seat party layout seen behind log met me is in_call behind_is =
    let call : OngoingCall = record { layout = layout; seen = seen } in
    subst (λ (m : Me ℕ SeatView). Allows (WordsAndLogsAgree scene) slots seat m 0 (λ found. either (eqb found seen) behind found)
    (exchanges (step slots 0 seen behind none) m)) (sym is)
    (λ state rule long at small.
    let x = exchanges_at scene slots seat party call behind log met in_call behind_is state rule long at small in
    let found : ℕ = get_or state.words 0 0 in (
      x.0,
      x.1,
      x.2,
      x.3,
      λ other now. subst (λ (c : OngoingCall).
          AfterStep scene party log met (Exchange party) (exchange_move scene.region found c).outcome found
          (x.0, carried_after {S = ℕ} [] x.1))
          (same_Some _ _ (sym in_call ∙ now)) x.4,
    ))
