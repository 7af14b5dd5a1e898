-- How parties go to seats of their own, and two of them to one seat.
use Rattle.atomic_table.proofs.Lists.{at_set}
use Rattle.atomic_table.specs.Table.{Joins, Splits, opening}
use Rattle.bb_memory_bump.proofs.SharedBumpFloors.{HaveMetBelow, met_push, met_set}
use Rattle.bb_memory_bump.specs.SharedBumpRule.{SeatView, WordsAndLogsAgree, all_parties, merged, met_by, nobody, sight}
use Rattle.bb_memory_bump_machine.proofs.BumpLogs.{opening_agrees}
use Rattle.bb_memory_bump_machine.specs.BumpLogs.{BumpEntry, BumpLog}
use Rattle.bb_memory_bump_machine.specs.BumpMachine.{BumpScene}
use Rattle.bb_memory_seats.proofs.Seatings.{seated_joined, seated_opening, seated_others}
use Rattle.bb_memory_seats.specs.Seats.{first_of, others_of}
use Rattle.std.proofs.Common.{[], arith, refl, replicate, set, subst, suc, sym, zero, ℕ, ◌∷◌, ◌≡◌, ◌≤◌}
use Rattle.std.proofs.lemmas.List.{length-replicate}
use Rattle.std.proofs.lemmas.List.Elements.{All-from_recursion}
use Rattle.std.specs.List.{AllByRecursion}
use mathlib.Core.Option.{some-injective, some-ne-none}

pub gives_first : (scene : BumpScene) (seat : ℕ) (view : SeatView) →
    Splits (WordsAndLogsAgree scene) seat view (others_of view) (first_of view)
gives_first scene seat view state rule at =
    let most = rule.met seat view at in
    let set_first = met_set state.views seat (others_of view) rule.position rule.position rule.met (omega arith) most in record {
      position = rule.position;
      logs = rule.logs;
      agree = rule.agree;
      words = rule.words;
      opened = rule.opened;
      one_a_party = rule.one_a_party;
      seated = seated_others scene.parties rule.logs state.views seat view rule.seated at;
      met = met_push (set state.views seat (others_of view)) (first_of view) rule.position set_first most;
    }

pub merges : (scene : BumpScene) (seat other : ℕ) (view guest : SeatView) →
    Joins (WordsAndLogsAgree scene) seat view other guest (merged view guest) nobody
merges scene seat other view guest state rule at apart there = grind (arith, at_set, seated_joined)

all_empty : (count : ℕ) → AllByRecursion (λ (log : BumpLog). log ≡ []) (replicate count [])
all_empty zero = tt
all_empty (suc count) = (refl, all_empty count)

pub opens : (scene : BumpScene) → scene.opening ≤ scene.region.size →
    WordsAndLogsAgree scene (opening (scene.opening ∷ []) [] (all_parties scene))
opens scene within = record {
  position = scene.opening;
  logs = replicate scene.parties [];
  agree = opening_agrees scene (replicate scene.parties [])
      (All-from_recursion (λ (log : BumpLog). log ≡ []) (replicate scene.parties []) (all_empty scene.parties));
  words = refl;
  opened = within;
  one_a_party = length-replicate scene.parties [];
  seated = seated_opening BumpEntry scene.parties (sight scene 0);
  met = unmet;
}
  where
    unmet : HaveMetBelow (all_parties scene ∷ []) scene.opening
    unmet zero view is = subst (λ (v : SeatView). met_by v ≤ scene.opening) (some-injective _ _ is) (omega arith)
    unmet (suc seat) view is = absurd (some-ne-none view (sym is))
