-- The takings and returns of a pool machine are a run of the pool object.
use Rattle.bb_memory_lists.proofs.SliceGets.{replicated-figure, slice_get-same, slice_get-set_apart, slice_get-set_at}
use Rattle.bb_memory_pool_machine.proofs.PoolFlags.{taken_within}
use Rattle.bb_memory_pool_machine.proofs.PoolSteps.{StepKind, attaches, attaches_from, detaches, gives, gives_detached, kind_of, takes, takes_at}
use Rattle.bb_memory_pool_machine.specs.PoolLogs.{AreAsked, IsCallRun, IsPoolRun, Layout, PoolCall, PoolEntry, PoolLog, history_of, is_taken, outcomes_of, pool_history}
use Rattle.bb_memory_pool_machine.specs.PoolMachine.{DetachedBy, Flag, Free, HeldBy, IsFlag, IsTaken, PoolMove, PoolOutcome, PoolScene, PoolState, PoolStep, left_by, opening_state, pool_after, pool_step}
use Rattle.bb_memory_traits.proofs.PoolGeometries.{bucket_place-apart}
use Rattle.bb_memory_traits.proofs.PoolLists.{AreInBuckets, AreInBuckets-empty, AreInBuckets-push, AreInBuckets-remove, at_from_count, count_at, count_at-push_other, count_at-push_same, count_at-remove_other, count_at-remove_same, count_from_at, sound_from_buckets}
use Rattle.bb_memory_traits.specs.Chunk.{Chunk, IsSound}
use Rattle.bb_memory_traits.specs.Object.{IsRun}
use Rattle.bb_memory_traits.specs.PoolObject.{IsAt, IsHeld, IsPoolGeometry, IsWithin, MayGive, PoolGeometry, bucket_place, chunk_in}
use Rattle.std.proofs.Common.{Bool, List, None, Option, Some, [], ap, arith, inl, inr, length, refl, subst, suc, sym, true, zero, ℕ, ◌++◌, ◌<◌, ◌↔◌, ◌∙◌, ◌∷◌, ◌≡◌, ◌≢◌}
use Rattle.std.proofs.lemmas.Bool.{cases_eq}
use Rattle.std.proofs.lemmas.List.{drop-map, length-replicate, length-set}
use Rattle.std.proofs.lemmas.List.Elements.{recursion_from_All}
use Rattle.std.proofs.lemmas.Option.{slice_get_within}
use Rattle.std.specs.List.{AllByRecursion}
use Rattle.std.specs.Prelude.{drop, if◌then◌else◌, remove, slice_get, slice_set, take}

-- STATES AND LISTS

abbrev taken_weight : Option Flag → ℕ
taken_weight (Some flag) = if is_taken flag then 1 else 0
taken_weight None = 0

weight_of_taken : (state : PoolState) (bucket : ℕ) → IsTaken state bucket → taken_weight (slice_get state.flags bucket) ≡ 1
weight_of_taken state bucket taken = grind arith

-- the list has one chunk in each bucket whose flag is taken, and no other
record Matches (geometry : PoolGeometry) (flags : List Flag) (live : List Chunk) : Type 0 where
  each : (bucket : ℕ) → bucket < geometry.buckets →
      count_at (bucket_place geometry bucket) live ≡ taken_weight (slice_get flags bucket)
  size : length flags ≡ geometry.buckets
  buckets : AreInBuckets geometry live

module _ (geometry : PoolGeometry) (is : IsPoolGeometry geometry) where
  -- a bucket whose flag is free may be given
  may_give : (state : PoolState) (live : List Chunk) (layout : Layout) (bucket : ℕ) →
      Matches geometry state.flags live → IsWithin geometry.bucket layout →
      IsFlag state bucket Free → MayGive geometry live layout bucket
  may_give state live layout bucket matches within free =
      let within_flags = slice_get_within state.flags bucket Free free in
      let below : bucket < geometry.buckets = omega (arith, within_flags, matches.size) in
      let none : count_at (bucket_place geometry bucket) live ≡ 0 = matches.each bucket below ∙ ap taken_weight free in
      record {
        within = within;
        bucket = below;
        free = λ held. let some = count_from_at (bucket_place geometry bucket) held.0 live held.1 in omega arith;
      }

  -- a bucket whose flag is taken has a chunk
  held_from_flag : (state : PoolState) (live : List Chunk) (bucket : ℕ) → Matches geometry state.flags live →
      IsTaken state bucket → IsHeld geometry live bucket
  held_from_flag state live bucket matches taken =
      let within_flags = taken_within state bucket taken in
      let below : bucket < geometry.buckets = omega (arith, within_flags, matches.size) in
      let one : count_at (bucket_place geometry bucket) live ≡ 1 =
      matches.each bucket below ∙ weight_of_taken state bucket taken in
      at_from_count (bucket_place geometry bucket) live (omega arith)

  -- a flag is set; its bucket then has the number of chunks that the flag determines, and each
  -- other bucket has its old number
  flag_set : (flags : List Flag) (live new : List Chunk) (bucket : ℕ) (before after : Flag) → Matches geometry flags live →
      slice_get flags bucket ≡ Some before → (count_at (bucket_place geometry bucket) live ≡ taken_weight (Some before) →
      count_at (bucket_place geometry bucket) new ≡ taken_weight (Some after)) →
      ((b : ℕ) → bucket ≢ b → count_at (bucket_place geometry b) new ≡ count_at (bucket_place geometry b) live) →
      AreInBuckets geometry new → Matches geometry (slice_set flags bucket after) new
  flag_set flags live new bucket before after matches there here others buckets = record {
    each = λ b below. elim (cases_eq bucket b) [
      | inl same ↦
          let In : ℕ → Flag → List Chunk → Type 0 =
          λ i flag list. count_at (bucket_place geometry i) list ≡ taken_weight (Some flag) in
          let was = matches.each b below ∙ ap taken_weight (slice_get-same flags bucket b (Some before) same there) in
          let now = here (subst (λ i. In i before live) (sym same) was) in
          subst (λ i. In i after new) same now
          ∙ sym (ap taken_weight (slice_get-set_at flags bucket b after before same there))
      | inr apart ↦
          others b apart ∙ matches.each b below ∙ sym (ap taken_weight (slice_get-set_apart flags bucket b after apart))
    ];
    size = length-set flags bucket after ∙ matches.size;
    buckets = buckets;
  }

  -- a free one is taken, and its chunk is given
  flag_taken : (state : PoolState) (live : List Chunk) (layout : Layout) (party bucket : ℕ) →
      Matches geometry state.flags live → IsWithin geometry.bucket layout → IsFlag state bucket Free →
      Matches geometry (slice_set state.flags bucket (HeldBy party)) (live ++ chunk_in geometry bucket layout ∷ [])
  flag_taken state live layout party bucket matches within free =
      let chunk : Chunk = chunk_in geometry bucket layout in
      let may = may_give state live layout bucket matches within free in
      flag_set state.flags live (live ++ chunk ∷ []) bucket Free (HeldBy party) matches free
      (λ none. omega (arith, none, count_at-push_same (bucket_place geometry bucket) live chunk refl))
      (λ b apart. count_at-push_other (bucket_place geometry b) live chunk (bucket_place-apart geometry is bucket b apart))
      (AreInBuckets-push geometry live layout bucket may matches.buckets)

  -- one that is taken is free again, and its chunk is taken out
  flag_freed : (state : PoolState) (live : List Chunk) (bucket position : ℕ) (before : Flag) →
      Matches geometry state.flags live → IsFlag state bucket before → is_taken before ≡ true → position < length live →
      IsAt live position (bucket_place geometry bucket) →
      Matches geometry (slice_set state.flags bucket Free) (remove live position)
  flag_freed state live bucket position before matches there taken within at =
      let place : ℕ = bucket_place geometry bucket in
      flag_set state.flags live (remove live position) bucket before Free matches there
      (λ weight.
      let one = weight ∙ ap (λ (b : Bool). if b then 1 else 0) taken in
      omega (arith, one, count_at-remove_same place position live at))
      (λ b apart. count_at-remove_other (bucket_place geometry b) place position live at
      (bucket_place-apart geometry is bucket b apart))
      (AreInBuckets-remove geometry live position within matches.buckets)

  -- ONE STEP

  -- each step makes a call of the object, for each layout that it may request
  step_calls : (old : PoolState) (live : List Chunk) (layout : Layout) (step : PoolStep) (move : PoolMove) →
      StepKind old step move → Matches geometry old.flags live → IsWithin geometry.bucket layout →
      (new : List Chunk) × PoolCall geometry live layout move.outcome new
  step_calls old live layout step move (takes party bucket next free) matches within =
      let may = may_give old live layout bucket matches within free in
      (live ++ chunk_in geometry bucket layout ∷ [], record { answers = (bucket, may, refl); leaves = refl })
  step_calls old live layout step move (takes_at party bucket idle free) matches within =
      let may = may_give old live layout bucket matches within free in
      (live ++ chunk_in geometry bucket layout ∷ [], record { answers = (bucket, may, refl); leaves = refl })
  step_calls old live layout step move (gives party bucket held) matches within =
      let there : IsHeld geometry live bucket = held_from_flag old live bucket matches (inl (party, held)) in
      let within_live = slice_get_within live there.0 there.1.chunk there.1.there in
      (remove live there.0, (there.0, there.1, record { within = within_live; leaves = refl }))
  step_calls old live layout step move (gives_detached party bucket idle detached) matches within =
      let there : IsHeld geometry live bucket = held_from_flag old live bucket matches (inr detached) in
      let within_live = slice_get_within live there.0 there.1.chunk there.1.there in
      (remove live there.0, (there.0, there.1, record { within = within_live; leaves = refl }))
  step_calls old live layout step move _ matches within = (live, refl)

  -- after each such call, the list again has a chunk in each bucket that is taken
  step_matches : (old : PoolState) (live new : List Chunk) (layout : Layout) (step : PoolStep)
      (move : PoolMove) → StepKind old step move → Matches geometry old.flags live →
      PoolCall geometry live layout move.outcome new → Matches geometry move.state.flags new
  step_matches old live new layout step move (takes party bucket next free) matches call =
      subst (Matches geometry move.state.flags) (sym call.leaves)
      (flag_taken old live layout party bucket matches call.answers.1.within free)
  step_matches old live new layout step move (takes_at party bucket idle free) matches call =
      subst (Matches geometry move.state.flags) (sym call.leaves)
      (flag_taken old live layout party bucket matches call.answers.1.within free)
  step_matches old live new layout step move (gives party bucket held) matches (position, at, released) =
      subst (Matches geometry move.state.flags) (sym released.leaves)
      (flag_freed old live bucket position (HeldBy party) matches held refl released.within at)
  step_matches old live new layout step move (detaches party bucket held others) matches call =
      subst (Matches geometry move.state.flags) (sym call)
      (flag_set old.flags live live bucket (HeldBy party) (DetachedBy party) matches held
      (λ one. one) (λ b apart. refl) matches.buckets)
  step_matches old live new layout step move (attaches party bucket idle (sender, detached)) matches call =
      subst (Matches geometry move.state.flags) (sym call)
      (flag_set old.flags live live bucket (DetachedBy sender) (HeldBy party) matches detached
      (λ one. one) (λ b apart. refl) matches.buckets)
  step_matches old live new layout step move (attaches_from party bucket from idle detached) matches call =
      subst (Matches geometry move.state.flags) (sym call)
      (flag_set old.flags live live bucket (DetachedBy from) (HeldBy party) matches detached
      (λ one. one) (λ b apart. refl) matches.buckets)
  step_matches old live new layout step move (gives_detached party bucket idle (sender, detached)) matches (i, at, released) =
      subst (Matches geometry move.state.flags) (sym released.leaves)
      (flag_freed old live bucket i (DetachedBy sender) matches detached refl released.within at)
  step_matches old live new layout step move _ matches call = subst (Matches geometry old.flags) (sym call) matches

  -- LISTS OF STEPS

  steps_call : (old : PoolState) (live : List Chunk) (steps : List PoolStep) (layouts : List Layout) →
      Matches geometry old.flags live → length layouts ≡ length steps → AllByRecursion (IsWithin geometry.bucket) layouts →
      (new : List Chunk) × IsRun (PoolCall geometry) live layouts (outcomes_of (pool_history old steps)) new
  steps_call old live [] [] matches same within = (live, refl)
  steps_call old live [] (layout ∷ layouts) matches same within = absurd (omega arith)
  steps_call old live (step ∷ steps) [] matches same within = absurd (omega arith)
  steps_call old live (step ∷ steps) (layout ∷ layouts) matches same (here, rest) =
      let move : PoolMove = pool_step old step in
      let first = step_calls old live layout step move (kind_of old step) matches here in
      let after = step_matches old live first.0 layout step move (kind_of old step) matches first.1 in
      let others = steps_call move.state first.0 steps layouts after (omega arith) rest in
      (others.0, (first.0, first.1, others.1))

  steps_match : (old : PoolState) (live new : List Chunk) (steps : List PoolStep) (layouts : List Layout) →
      Matches geometry old.flags live → IsRun (PoolCall geometry) live layouts (outcomes_of (pool_history old steps)) new →
      Matches geometry (pool_after old steps).flags new
  steps_match old live new [] [] matches run = subst (Matches geometry old.flags) (sym run) matches
  steps_match old live new [] (layout ∷ layouts) matches run = absurd run
  steps_match old live new (step ∷ steps) [] matches run = absurd run
  steps_match old live new (step ∷ steps) (layout ∷ layouts) matches (mid, first, rest) =
      let move : PoolMove = pool_step old step in
      let after = step_matches old live mid layout step move (kind_of old step) matches first in
      steps_match move.state mid new steps layouts after rest

-- FROM THE OPENING

opening_matches : (scene : PoolScene) → Matches scene.geometry (opening_state scene).flags []
opening_matches scene = record {
  each = λ bucket below. sym (replicated-figure taken_weight scene.geometry.buckets bucket Free refl);
  size = length-replicate scene.geometry.buckets Free;
  buckets = AreInBuckets-empty scene.geometry;
}

pub pool_run : (scene : PoolScene) (steps : List PoolStep) (layouts : List Layout) →
    IsPoolGeometry scene.geometry → AreAsked scene.geometry steps layouts →
    (live : List Chunk) × IsPoolRun scene steps layouts live
pool_run scene steps layouts is asked =
    let within = recursion_from_All (IsWithin scene.geometry.bucket) layouts asked.within in
    let opening : PoolState = opening_state scene in
    steps_call scene.geometry is opening [] steps layouts (opening_matches scene) asked.one_a_step within

run_matches : (scene : PoolScene) (steps : List PoolStep) (layouts : List Layout)
    (live : List Chunk) → IsPoolGeometry scene.geometry → IsPoolRun scene steps layouts live →
    Matches scene.geometry (left_by scene steps).flags live
run_matches scene steps layouts live is run =
    let opening : PoolState = opening_state scene in
    steps_match scene.geometry is opening [] live steps layouts (opening_matches scene) run

taken_from_weight : (state : PoolState) (bucket : ℕ) (found : Option Flag) →
    slice_get state.flags bucket ≡ found → 0 < taken_weight found → IsTaken state bucket
taken_from_weight state bucket None there some = absurd (omega arith)
taken_from_weight state bucket (Some Free) there some = absurd (omega arith)
taken_from_weight state bucket (Some (HeldBy party)) there some = inl (party, there)
taken_from_weight state bucket (Some (DetachedBy sender)) there some = inr (sender, there)

pub taken_is_held : (scene : PoolScene) (steps : List PoolStep) (layouts : List Layout)
    (live : List Chunk) (bucket : ℕ) → IsPoolGeometry scene.geometry → IsPoolRun scene steps layouts live →
    bucket < scene.geometry.buckets →
    IsTaken (left_by scene steps) bucket ↔ IsHeld scene.geometry live bucket
taken_is_held scene steps layouts live bucket is run below =
    let state : PoolState = left_by scene steps in
    let matches : Matches scene.geometry state.flags live = run_matches scene steps layouts live is run in (
      λ taken. held_from_flag scene.geometry is state live bucket matches taken,
      λ held.
          let some = count_from_at (bucket_place scene.geometry bucket) held.0 live held.1 in
          taken_from_weight state bucket (slice_get state.flags bucket) refl (omega (arith, matches.each bucket below, some)),
    )

pub run_is_sound : (scene : PoolScene) (steps : List PoolStep) (layouts : List Layout)
    (live : List Chunk) → IsPoolGeometry scene.geometry → IsPoolRun scene steps layouts live →
    IsSound scene.geometry.region live
run_is_sound scene steps layouts live is run =
    sound_from_buckets scene.geometry is live (run_matches scene steps layouts live is run).buckets

-- THE STEPS UP TO ONE, AND THE REST

-- a run is one of its first commands, and one of the others
run-split : {C R : Type 0} (step : List Chunk → C → R → List Chunk → Type 0) (old new : List Chunk)
    (commands : List C) (replies : List R) (k : ℕ) → IsRun step old commands replies new →
    (there : List Chunk) × IsRun step old (take k commands) (take k replies) there
    × IsRun step there (drop k commands) (drop k replies) new
run-split step old new commands replies zero run = (old, refl, run)
run-split step old new [] [] (suc k) run = (old, refl, run)
run-split step old new (command ∷ commands) (reply ∷ replies) (suc k) (mid, first, rest) =
    let split = run-split step mid new commands replies k rest in
    (split.0, (mid, first, split.1), split.2)
run-split step old new [] (reply ∷ replies) (suc k) run = absurd run
run-split step old new (command ∷ commands) [] (suc k) run = absurd run

outcomes-take : (old : PoolState) (steps : List PoolStep) (k : ℕ) →
    take k (outcomes_of (pool_history old steps)) ≡ outcomes_of (pool_history old (take k steps))
outcomes-take old steps zero = refl
outcomes-take old [] (suc k) = refl
outcomes-take old (step ∷ steps) (suc k) =
    ap (λ (outcomes : List PoolOutcome). (pool_step old step).outcome ∷ outcomes)
    (outcomes-take (pool_step old step).state steps k)

pub run_at_step : (scene : PoolScene) (steps : List PoolStep) (layouts : List Layout) (live : List Chunk)
    (k : ℕ) → IsPoolRun scene steps layouts live →
    (there : List Chunk) × IsPoolRun scene (take k steps) (take k layouts) there
    × IsCallRun scene.geometry there (drop k layouts) (drop k (history_of scene steps)) live
run_at_step scene steps layouts live k run =
    let opening : PoolState = opening_state scene in
    let history : PoolLog = pool_history opening steps in
    let split = run-split (PoolCall scene.geometry) [] live layouts (outcomes_of history) k run in
    let Before : List PoolOutcome → Type 0 = λ outcomes. IsRun (PoolCall scene.geometry) [] (take k layouts) outcomes split.0 in
    let After : List PoolOutcome → Type 0 = λ outcomes. IsRun (PoolCall scene.geometry) split.0 (drop k layouts) outcomes live in
    let later = drop-map (λ (e : PoolEntry). e.outcome) k history in
    (split.0, subst Before (outcomes-take opening steps k) split.1, subst After later split.2)
