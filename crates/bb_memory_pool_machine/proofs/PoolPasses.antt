-- The buckets that a refused pass or a miss has found held.
use Rattle.bb_memory_lists.proofs.SliceGets.{replicated-figure, slice_get-same, slice_get-set_apart, slice_get-set_at}
use Rattle.bb_memory_pool_machine.proofs.PoolFlags.{taken_within}
use Rattle.bb_memory_pool_machine.proofs.PoolRuns.{taken_is_held}
use Rattle.bb_memory_pool_machine.proofs.PoolSteps.{IsNext, StepKind, is_refused, kind_of, length-left_by, length-step, loses, misses, next_of_idle, takes, takes_at}
use Rattle.bb_memory_pool_machine.specs.PoolLogs.{FoundHeld, IsHeldInRun, IsLossAt, IsRefusedAt, LosesAt, MissesAt, PoolEntry, entry_of, history_of, pool_history}
use Rattle.bb_memory_pool_machine.specs.PoolMachine.{Flag, Free, IsInCall, IsTaken, Misses, PoolMove, PoolOutcome, PoolScene, PoolState, PoolStep, RefusedAtLoss, Try, TryAt, left_by, opening_state, pool_after, pool_step}
use Rattle.bb_memory_traits.specs.PoolObject.{IsPoolGeometry}
use Rattle.std.proofs.Common.{List, None, Option, Some, [], ap, arith, inl, inr, length, refl, subst, suc, sym, zero, ℕ, ◌+◌, ◌<◌, ◌∙◌, ◌∷◌, ◌≡◌, ◌≤◌, ◌⊎◌}
use Rattle.std.proofs.lemmas.Bool.{cases_eq}
use Rattle.std.proofs.lemmas.List.{length-replicate}
use Rattle.std.proofs.lemmas.Option.{same_Some}
use Rattle.std.specs.Prelude.{slice_get, slice_set, take, unwrap_or}

-- PROGRESS

-- how many buckets a pass has lost
abbrev progress_of : Option (Option ℕ) → ℕ
progress_of (Some pass) = unwrap_or pass 0
progress_of None = 0

progress_next : (state : PoolState) (other party bucket : ℕ) → other ≡ party → IsNext state other bucket →
    progress_of (slice_get state.calls party) ≡ bucket
progress_next state other party bucket same next =
    ap progress_of (slice_get-same state.calls other party (Some next.pass) same next.there) ∙ next.at

in_pass_from_progress : (state : PoolState) (party bucket : ℕ) (found : Option (Option ℕ)) →
    slice_get state.calls party ≡ found → bucket < progress_of found → (at : ℕ) × IsInCall state party at
in_pass_from_progress state party bucket None there less = absurd (omega arith)
in_pass_from_progress state party bucket (Some None) there less = absurd (omega arith)
in_pass_from_progress state party bucket (Some (Some next)) there less = (next, there)

below_or_at : (m n : ℕ) → m < n + 1 → (m < n) ⊎ (n ≡ m)
below_or_at m n less = grind arith

-- each bucket is lost before a refusal, or at it
at_refusal : (state : PoolState) (step : PoolStep) (move : PoolMove) (party last bucket : ℕ) →
    StepKind state step move → step ≡ Try party → move.outcome ≡ RefusedAtLoss last → bucket < length state.flags →
    (bucket < progress_of (slice_get state.calls party)) ⊎ IsLossAt bucket move.outcome
at_refusal state step move party last bucket (is_refused other lost next taken none) by refusal below = grind arith
at_refusal state step move party last bucket _ by refusal below = absurd (cc)

-- a pass that is over has lost none
over : (state : PoolState) (other party bucket next : ℕ) → IsNext state other next →
    bucket < progress_of (slice_get (slice_set state.calls other None) party) → bucket < progress_of (slice_get state.calls party)
over state other party bucket at next less = grind (arith, cases_eq, slice_get-set_at, slice_get-set_apart)

-- a bucket that a pass has lost after a step was lost before the step, or is lost at it
at_progress : (state : PoolState) (step : PoolStep) (move : PoolMove) (party bucket : ℕ) →
    StepKind state step move → bucket < progress_of (slice_get move.state.calls party) →
    (bucket < progress_of (slice_get state.calls party)) ⊎ ((step ≡ Try party) × IsLossAt bucket move.outcome)
at_progress state step move party bucket (takes other taken next free) less =
    inl (over state other party bucket taken next less)
at_progress state step move party bucket (is_refused other lost next taken none) less =
    inl (over state other party bucket lost next less)
at_progress state step move party bucket (takes_at other taken idle free) less =
    inl (over state other party bucket 0 (next_of_idle state other idle) less)
at_progress state step move party bucket (loses other lost next taken more) less =
    grind (arith, slice_get-set_at, progress_next, below_or_at, slice_get-set_apart)
at_progress state step move party bucket _ less = inl less

-- a bucket that is lost is taken
taken_at_loss : (state : PoolState) (step : PoolStep) (move : PoolMove) (bucket : ℕ) → StepKind state step move →
    IsLossAt bucket move.outcome → IsTaken state bucket
taken_at_loss state step move bucket (loses other at next taken more) lost = subst (IsTaken state) lost taken
taken_at_loss state step move bucket (is_refused other at next taken none) lost = subst (IsTaken state) lost taken
taken_at_loss state step move bucket _ lost = absurd lost

-- ONE PASS

-- the party is in a pass after each beginning of these steps between two lengths
abbrev PassLasts : PoolState → List PoolStep → ℕ → ℕ → ℕ → Type 0
PassLasts state steps party low last =
    (j : ℕ) → low ≤ j → j ≤ last → (at : ℕ) × IsInCall (pool_after state (take j steps)) party at

-- the pass that is refused at step last lost the bucket at one of the steps, or before them
data Behind (state : PoolState) (steps : List PoolStep) (party last bucket : ℕ) : Type 0 where
  lost_at : (k : ℕ) → k ≤ last → LosesAt (pool_history state steps) party bucket k →
      PassLasts state steps party (suc k) last → Behind state steps party last bucket
  earlier : bucket < progress_of (slice_get state.calls party) → PassLasts state steps party 0 last →
      Behind state steps party last bucket

from_next : (state : PoolState) (step : PoolStep) (steps : List PoolStep) (party low last : ℕ) →
    PassLasts (pool_step state step).state steps party low last → PassLasts state (step ∷ steps) party (suc low) (suc last)
from_next state step steps party low last rest zero after within = absurd (omega arith)
from_next state step steps party low last rest (suc j) after within = rest j (omega arith) (omega arith)

from_start : (state : PoolState) (step : PoolStep) (steps : List PoolStep) (party last : ℕ) → (at : ℕ) × IsInCall state party at →
    PassLasts (pool_step state step).state steps party 0 last → PassLasts state (step ∷ steps) party 0 (suc last)
from_start state step steps party last start rest zero after within = start
from_start state step steps party last start rest (suc j) after within = rest j (omega arith) (omega arith)

entry_parts : (step other : PoolStep) (outcome found : PoolOutcome) → Some (entry_of step outcome) ≡ Some (entry_of other found) →
    (step ≡ other) × (outcome ≡ found)
entry_parts step other outcome found same =
    let parts = same_Some (entry_of step outcome) (entry_of other found) same in
    (ap (λ (e : PoolEntry). e.step) parts, ap (λ (e : PoolEntry). e.outcome) parts)

loses_first : (state : PoolState) (step : PoolStep) (steps : List PoolStep) (party bucket : ℕ) → step ≡ Try party →
    IsLossAt bucket (pool_step state step).outcome → LosesAt (pool_history state (step ∷ steps)) party bucket 0
loses_first state step steps party bucket by lost = grind arith

loses_later : (state : PoolState) (step : PoolStep) (steps : List PoolStep) (party bucket k : ℕ) →
    LosesAt (pool_history (pool_step state step).state steps) party bucket k →
    LosesAt (pool_history state (step ∷ steps)) party bucket (suc k)
loses_later state step steps party bucket k lost = record { outcome = lost.outcome; there = lost.there; loss = lost.loss }

all_behind : (state : PoolState) (steps : List PoolStep) (party last bucket : ℕ) →
    IsRefusedAt (pool_history state steps) party last → bucket < length state.flags → Behind state steps party last bucket
all_behind state [] party last bucket refused below = absurd (let there = refused.there in cc)
all_behind state (step ∷ steps) party zero bucket refused below =
    let move : PoolMove = pool_step state step in
    let entry = entry_parts step (Try party) move.outcome (RefusedAtLoss refused.bucket) refused.there in
    elim (at_refusal state step move party refused.bucket bucket (kind_of state step) entry.0 entry.1 below) [
      | inl before ↦ earlier before (only_now before)
      | inr lost ↦
          lost_at zero (omega arith) (loses_first state step steps party bucket entry.0 lost)
          (λ j after within. absurd (omega arith))
    ]
  where
    only_now : bucket < progress_of (slice_get state.calls party) → PassLasts state (step ∷ steps) party 0 zero
    only_now before zero after within = in_pass_from_progress state party bucket (slice_get state.calls party) refl before
    only_now before (suc j) after within = absurd (omega arith)
all_behind state (step ∷ steps) party (suc last) bucket refused below =
    let move : PoolMove = pool_step state step in
    let refused_later : IsRefusedAt (pool_history move.state steps) party last =
    record { bucket = refused.bucket; there = refused.there } in
    let below_later : bucket < length move.state.flags = omega (arith, length-step state step move (kind_of state step)) in
    let rest : Behind move.state steps party last bucket =
    all_behind move.state steps party last bucket refused_later below_later in
    elim rest as (λ _. Behind state (step ∷ steps) party (suc last) bucket) [
      | lost_at k within lost pass ↦
          lost_at (suc k) (omega arith) (loses_later state step steps party bucket k lost)
          (from_next state step steps party (suc k) last pass)
      | earlier less pass ↦ elim (at_progress state step move party bucket (kind_of state step) less) [
        | inl before ↦
            let start = in_pass_from_progress state party bucket (slice_get state.calls party) refl before in
            earlier before (from_start state step steps party last start pass)
        | inr lost ↦
            let first = loses_first state step steps party bucket lost.0 lost.1 in
            lost_at zero (omega arith) first (from_next state step steps party 0 last pass)
      ]
    ]

-- the step of an entry finds the state after the steps before it
pub entry_step : (state : PoolState) (steps : List PoolStep) (k : ℕ) (step : PoolStep) (outcome : PoolOutcome) →
    slice_get (pool_history state steps) k ≡ Some (entry_of step outcome) →
    (pool_step (pool_after state (take k steps)) step).outcome ≡ outcome
entry_step state [] k step outcome there = absurd (cc)
entry_step state (first ∷ steps) zero step outcome there =
    let entry = entry_parts first step (pool_step state first).outcome outcome there in
    ap (λ (s : PoolStep). (pool_step state s).outcome) (sym entry.0) ∙ entry.1
entry_step state (first ∷ steps) (suc k) step outcome there =
    entry_step (pool_step state first).state steps k step outcome there

taken_at_entry : (state : PoolState) (steps : List PoolStep) (party bucket k : ℕ) →
    LosesAt (pool_history state steps) party bucket k → IsTaken (pool_after state (take k steps)) bucket
taken_at_entry state steps party bucket k lost =
    let there : PoolState = pool_after state (take k steps) in
    let same = entry_step state steps k (Try party) lost.outcome lost.there in
    taken_at_loss there (Try party) (pool_step there (Try party)) bucket (kind_of there (Try party))
    (subst (IsLossAt bucket) (sym same) lost.loss)

-- a refused pass has lost each bucket at a step of its own, at which the bucket was held in the run
pub refused_found_held : (scene : PoolScene) (steps : List PoolStep)
    (party last bucket : ℕ) → IsPoolGeometry scene.geometry →
    IsRefusedAt (history_of scene steps) party last → bucket < scene.geometry.buckets →
    FoundHeld scene steps party last bucket
refused_found_held scene steps party last bucket is refused below =
    let state : PoolState = opening_state scene in
    let flags = length-replicate {A = Flag} scene.geometry.buckets Free in
    let below_flags : bucket < length state.flags = omega (arith, flags) in
    elim (all_behind state steps party last bucket refused below_flags)
    as (λ _. FoundHeld scene steps party last bucket) [
      | lost_at k within lost pass ↦ record {
        step = k;
        before = within;
        loses = lost;
        one_pass = λ j after. pass j (omega arith);
        held = λ layouts live run.
            let taken = taken_at_entry state steps party bucket k lost in
            (taken_is_held scene (take k steps) layouts live bucket is run below).0 taken;
      }
      | earlier less pass ↦ absurd (omega (arith, replicated-figure progress_of scene.parties party None refl, less))
    ]

-- MISSES

-- a bucket that is missed is taken
taken_at_miss : (state : PoolState) (step : PoolStep) (move : PoolMove) (party bucket : ℕ) → StepKind state step move →
    step ≡ TryAt party bucket → move.outcome ≡ Misses bucket → IsTaken state bucket
taken_at_miss state step move party bucket (misses other at idle taken) same is =
    let its : at ≡ bucket = cc in subst (IsTaken state) its taken
taken_at_miss state step move party bucket _ same is = absurd (cc)

-- at a miss the bucket is held in the run
pub missed_is_held : (scene : PoolScene) (steps : List PoolStep) (party bucket k : ℕ) → IsPoolGeometry scene.geometry →
    MissesAt (history_of scene steps) party bucket k →
    (bucket < scene.geometry.buckets) × IsTaken (left_by scene (take k steps)) bucket × IsHeldInRun scene (take k steps) bucket
missed_is_held scene steps party bucket k is missed =
    let there : PoolState = left_by scene (take k steps) in
    let step : PoolStep = TryAt party bucket in
    let taken = taken_at_miss there step (pool_step there step) party bucket (kind_of there step) refl
    (entry_step (opening_state scene) steps k step (Misses bucket) missed) in
    let within = taken_within there bucket taken in
    let below : bucket < scene.geometry.buckets = omega (arith, within, length-left_by scene (take k steps)) in
    (below, taken, λ layouts live run. (taken_is_held scene (take k steps) layouts live bucket is run below).0 taken)
