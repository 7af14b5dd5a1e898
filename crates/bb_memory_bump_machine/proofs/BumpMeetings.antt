-- Two parties and their logs: the chunks in one log are apart from those in the other.
use Rattle.bb_memory_bump_machine.proofs.BumpAllowed.{no_clear_when_allowed, not_by}
use Rattle.bb_memory_bump_machine.proofs.BumpPositions.{both_interleaved}
use Rattle.bb_memory_bump_machine.proofs.BumpRuns.{fitting_at_opening}
use Rattle.bb_memory_bump_machine.proofs.BumpStretches.{stretch_stands}
use Rattle.bb_memory_bump_machine.specs.BumpLogs.{AllAllowed, BumpEntry, BumpLog, CommonInterleaving, HasLog, LogsAgree, OpensWith, chunks_won, entries_by, history_of, is_by, won_at}
use Rattle.bb_memory_bump_machine.specs.BumpMachine.{BumpScene, BumpStep, left_by, opening_state}
use Rattle.bb_memory_traits.proofs.LiveLists.{all_above, all_end_by, in_order-front, in_order-rest, stands_for_some}
use Rattle.bb_memory_traits.specs.BumpObject.{IsInOrder, StandsFor, end_of_last}
use Rattle.bb_memory_traits.specs.Chunk.{AreApart, Chunk, chunk_end}
use Rattle.std.proofs.Common.{Bool, List, [], arith, false, refl, subst, sym, true, true≢false, ℕ, ◌++◌, ◌∙◌, ◌∷◌, ◌≡◌, ◌≢◌, ◌≤◌}
use Rattle.std.proofs.lemmas.List.Elements.{All-append, All-cons, All-from_recursion, All-head, All-nil, All-tail}
use Rattle.std.specs.List.{All}
use Rattle.std.specs.Prelude.{if◌then◌else◌}

-- FACTS OF EACH CHUNK

-- a property of all holds for the first ones, and for those after them
pub all_parts : (P : Chunk → Type 0) (xs ys : List Chunk) → All P (xs ++ ys) → All P xs × All P ys
all_parts P [] ys all = (All-nil P, all)
all_parts P (x ∷ xs) ys all =
    let parts = all_parts P xs ys (All-tail P x (xs ++ ys) all) in
    (All-cons P x xs (All-head P x (xs ++ ys) all) parts.0, parts.1)

-- a property of all chunks that were won holds for those that one party won
all_own : (P : Chunk → Type 0) (own : Bool) (entry : BumpEntry) (log : BumpLog) → All P (won_at entry.outcome) →
    All P (chunks_won log) → All P (chunks_won (if own then entry ∷ log else log))
all_own P true entry log here rest = All-append P (won_at entry.outcome) (chunks_won log) here rest
all_own P false entry log here rest = rest

pub all_in_log : (P : Chunk → Type 0) (party : ℕ) (history : BumpLog) → All P (chunks_won history) →
    All P (chunks_won (entries_by party history))
all_in_log P party [] all = all
all_in_log P party (entry ∷ history) all =
    let parts = all_parts P (won_at entry.outcome) (chunks_won history) all in
    all_own P (is_by party entry.step) entry (entries_by party history) parts.0 (all_in_log P party history parts.1)

-- TWO LISTS

-- each chunk of one list is apart from each of the other
abbrev pub AllApart : List Chunk → List Chunk → Type 0
AllApart xs ys = All (λ x. All (AreApart x) ys) xs

-- a list that follows another is apart from it
pub apart_behind : (v : ℕ) (xs ys : List Chunk) → All (λ x. chunk_end x ≤ v) xs → All (λ y. v ≤ y.place) ys → AllApart xs ys
apart_behind v xs ys below above = λ i d first j e second. λ shared.
    omega (arith, below i d first, above j e second, shared.1.1, shared.2.0)

-- being apart goes both ways
apart_turned : (xs ys : List Chunk) → AllApart xs ys → AllApart ys xs
apart_turned xs ys apart = λ j e second i d first. λ shared. apart i d first j e second (shared.0, shared.2, shared.1)

-- TWO LOGS

-- one more entry, which is at most one party's
apart_entry : (own others : Bool) (entry : BumpEntry) (log other_log : BumpLog) → ((own ≡ true) → (others ≡ true) → ⊥) →
    AllApart (won_at entry.outcome) (chunks_won other_log) → AllApart (won_at entry.outcome) (chunks_won log) →
    AllApart (chunks_won log) (chunks_won other_log) →
    AllApart (chunks_won (if own then entry ∷ log else log)) (chunks_won (if others then entry ∷ other_log else other_log))
apart_entry true true entry log other_log one from_other from_own rest = absurd (one refl refl)
apart_entry true false entry log other_log one from_other from_own rest =
    All-append (λ x. All (AreApart x) (chunks_won other_log)) (won_at entry.outcome) (chunks_won log) from_other rest
apart_entry false false entry log other_log one from_other from_own rest = rest
apart_entry false true entry log other_log one from_other from_own rest =
    let won = won_at entry.outcome in
    apart_turned (won ++ chunks_won other_log) (chunks_won log)
    (All-append (λ x. All (AreApart x) (chunks_won log)) won (chunks_won other_log) from_own
    (apart_turned (chunks_won log) (chunks_won other_log) rest))

logs_apart : (v party other : ℕ) (history : BumpLog) → party ≢ other → IsInOrder v (chunks_won history) →
    AllApart (chunks_won (entries_by party history)) (chunks_won (entries_by other history))
logs_apart v party other [] apart ordered = All-nil (λ x. All (AreApart x) [])
logs_apart v party other (entry ∷ history) apart ordered =
    let won = won_at entry.outcome in
    let later = chunks_won history in
    let rest = in_order-rest v won later ordered in
    let end = end_of_last v won in
    let below = all_end_by v end won (in_order-front v won later ordered) (omega arith) in
    let above = All-from_recursion (λ y. end ≤ y.place) later (all_above end end later (omega arith) rest) in
    let behind = λ (p : ℕ). apart_behind end won (chunks_won (entries_by p history)) below
    (all_in_log (λ y. end ≤ y.place) p history above) in
    apart_entry (is_by party entry.step) (is_by other entry.step) entry (entries_by party history) (entries_by other history)
    (λ own others. true≢false (sym others ∙ not_by party other entry.step apart own))
    (behind other) (behind party) (logs_apart end party other history apart rest)

-- allowed steps leave a position that stands for the earlier chunks and those won since
pub allowed_stands : (scene : BumpScene) (live : List Chunk) (steps : List BumpStep) → AllAllowed (history_of scene steps) →
    OpensWith scene live → StandsFor scene.region (left_by scene steps).position (live ++ chunks_won (history_of scene steps))
allowed_stands scene live steps allowed opens =
    let none = no_clear_when_allowed scene.region (opening_state scene) steps allowed in
    stretch_stands scene.region (opening_state scene) live steps none opens (fitting_at_opening scene)

-- if one interleaving has both logs, their chunks are apart
pub common_apart : (scene : BumpScene) (position party : ℕ) (log : BumpLog) (other : ℕ) (other_log : BumpLog) →
    scene.opening ≤ scene.region.size → CommonInterleaving scene party log other other_log position → party ≢ other →
    AllApart (chunks_won log) (chunks_won other_log)
common_apart scene position party log other other_log within common apart =
    let history = history_of scene common.steps in
    let some = stands_for_some scene.region scene.opening within in
    let stands = allowed_stands scene some.0 common.steps common.allowed some.1 in
    let ordered = in_order-rest scene.region.start some.0 (chunks_won history) stands.in_order in
    let both = logs_apart (end_of_last scene.region.start some.0) party other history apart ordered in
    let first = subst (λ (l : BumpLog). AllApart (chunks_won l) (chunks_won (entries_by other history))) common.logged both in
    subst (λ (l : BumpLog). AllApart (chunks_won log) (chunks_won l)) common.other_logged first

pub chunks_apart : (scene : BumpScene) (position : ℕ) (logs : List BumpLog) (party : ℕ) (log : BumpLog) (other : ℕ)
    (other_log : BumpLog) → scene.opening ≤ scene.region.size → LogsAgree scene position logs → HasLog logs party log →
    HasLog logs other other_log → party ≢ other → AllApart (chunks_won log) (chunks_won other_log)
chunks_apart scene position logs party log other other_log within agree own others apart =
    common_apart scene position party log other other_log within
    (both_interleaved scene position logs party log other other_log agree own others) apart
