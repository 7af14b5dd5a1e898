-- How parties go to seats of their own, and two of them to one seat.
use Rattle.atomic_table.specs.Table.{Joins, Splits, State, opening}
use Rattle.bb_memory_pool_machine.proofs.PoolLogSteps.{opening_agrees}
use Rattle.bb_memory_pool_machine.specs.PoolLogs.{LogsAgree, PoolEntry, PoolLog}
use Rattle.bb_memory_pool_machine.specs.PoolMachine.{PoolScene}
use Rattle.bb_memory_pool_machine.specs.declared.steps.pool.Flag.{Flag}
use Rattle.bb_memory_pool_machine.specs.declared.steps.pool.Flag.TheVariants.{Free}
use Rattle.bb_memory_seats.proofs.Seatings.{seated_joined, seated_opening, seated_others, seated_split}
use Rattle.bb_memory_seats.specs.Seats.{AreSeated, both_detached, both_of, first_detached, first_of, others_detached, others_of}
use Rattle.bb_memory_shared_pools.proofs.FlagWords.{all_free, free_in}
use Rattle.bb_memory_shared_pools.proofs.SharedPoolDetached.{both_parts, detached_joined, detached_split, times_of-parts}
use Rattle.bb_memory_shared_pools.specs.FlagWords.{words_for}
use Rattle.bb_memory_shared_pools.specs.SharedPoolRule.{AreDetached, SeatView, WordsAndLogsAgree, all_parties, nobody}
use Rattle.std.proofs.Common.{List, [], arith, refl, replicate, subst, sym, ℕ, ◌++◌, ◌∙◌, ◌≡◌, ◌≤◌}
use Rattle.std.proofs.lemmas.List.{length-replicate}
use Rattle.std.proofs.lemmas.List.Elements.{All-replicate}
use Rattle.std.specs.Prelude.{All}

-- the rule with other views
reseated : (scene : PoolScene) (state : State ℕ SeatView) (rule : WordsAndLogsAgree scene state) (views : List SeatView) →
    AreSeated scene.parties rule.logs views → AreDetached rule.marks views →
    WordsAndLogsAgree scene record { words = state.words; homes = state.homes; views = views }
reseated scene state rule views seated detached = record {
  marks = rule.marks;
  logs = rule.logs;
  agree = rule.agree;
  words = rule.words;
  one_a_party = rule.one_a_party;
  seated = seated;
  detached = detached;
}

pub gives_first : (scene : PoolScene) (seat : ℕ) (view : SeatView) →
    Splits (WordsAndLogsAgree scene) seat view (others_of view) (first_of view)
gives_first scene seat view state rule at = reseated scene state rule _
    (seated_others scene.parties rule.logs state.views seat view rule.seated at)
    (detached_split rule.marks state.views seat view (others_of view) (first_of view) (λ bucket. omega arith)
    rule.detached at)

pub merges : (scene : PoolScene) (seat other : ℕ) (view guest : SeatView) →
    Joins (WordsAndLogsAgree scene) seat view other guest (both_of view guest) nobody
merges scene seat other view guest state rule at apart there = reseated scene state rule _
    (seated_joined scene.parties rule.logs state.views seat view other guest view.scene nobody.scene []
    rule.seated at apart there)
    (detached_joined rule.marks state.views seat other view guest (both_of view guest) nobody refl
    (λ bucket. omega arith) rule.detached at there)

-- a detached bucket goes to a seat of its own, and to the seat of another
pub gives_detached : (scene : PoolScene) (seat : ℕ) (view : SeatView) →
    Splits (WordsAndLogsAgree scene) seat view (others_detached view) (first_detached view)
gives_detached scene seat view state rule at = reseated scene state rule _
    (seated_split scene.parties rule.logs state.views seat view (others_detached view) (first_detached view)
    (λ number. omega arith) (λ have. (have, tt)) rule.seated at)
    (detached_split rule.marks state.views seat view (others_detached view) (first_detached view)
    (λ bucket. let parts = times_of-parts bucket view.detached in omega arith) rule.detached at)

pub takes_in : (scene : PoolScene) (seat other : ℕ) (view guest : SeatView) →
    Joins (WordsAndLogsAgree scene) seat view other guest (both_detached view guest) nobody
takes_in scene seat other view guest state rule at apart there = reseated scene state rule _
    (seated_joined scene.parties rule.logs state.views seat view other guest view.scene nobody.scene
    (guest.detached ++ view.detached) rule.seated at apart there)
    (detached_joined rule.marks state.views seat other view guest (both_detached view guest) nobody refl
    (both_parts guest.detached view.detached) rule.detached at there)

-- THE OPENING

all_empty : (n : ℕ) → All (λ (log : PoolLog). log ≡ []) (replicate n [])
all_empty n = All-replicate (λ (log : PoolLog). log ≡ []) n [] refl

pub opens : (scene : PoolScene) (words : List ℕ) → words ≡ replicate (words_for scene.geometry.buckets) 0 →
    1 ≤ scene.parties → WordsAndLogsAgree scene (opening words [] (all_parties scene))
opens scene words are some_party =
    let logs : List PoolLog = replicate scene.parties [] in record {
      marks = replicate scene.geometry.buckets Free;
      logs = logs;
      agree = subst (λ (flags : List Flag). LogsAgree scene flags logs) (sym (free_in scene.geometry.buckets))
          (opening_agrees scene logs (all_empty scene.parties));
      words = are ∙ all_free scene.geometry.buckets;
      one_a_party = length-replicate {A = PoolLog} scene.parties [];
      seated = seated_opening PoolEntry scene.parties scene;
      detached = record { each = λ bucket some. absurd (omega arith); once = λ bucket. omega arith };
    }
