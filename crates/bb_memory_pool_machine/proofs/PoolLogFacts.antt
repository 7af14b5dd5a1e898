-- Consequences of a pool's flags and logs agreeing.
use Rattle.bb_memory_lists.proofs.ListEntries.{contains-behind, contains-first, contains-none}
use Rattle.bb_memory_pool_machine.proofs.PoolDetached.{none_detached_alone, none_detached_at_opening, none_held_at_opening, none_taken_at_opening}
use Rattle.bb_memory_pool_machine.proofs.PoolFlags.{names_made}
use Rattle.bb_memory_pool_machine.proofs.PoolHolders.{holder_in_log, is_holder, nobody_holds, step_holds}
use Rattle.bb_memory_pool_machine.proofs.PoolSteps.{StepKind, attaches, attaches_from, calls-step, detaches, finds_token, gives, gives_detached, is_refused, kind_of, length-left_by, loses, misses, misses_from, passes, takes, takes_at, test_apart}
use Rattle.bb_memory_pool_machine.specs.PoolLogs.{AllAllowed, CommonInterleaving, HasLog, Interleaving, IsAllowed, IsDetachedIn, IsHeldAfter, IsLostAttach, LogsAgree, MayBeFound, PoolEntry, PoolLog, entries_by, entry_of, held_after, history_of, is_by, is_taken, log_of, pool_history}
use Rattle.bb_memory_pool_machine.specs.PoolMachine.{DetachedBy, Flag, Free, HeldBy, IsDetached, IsHolder, IsTaken, PoolMove, PoolOutcome, PoolScene, PoolState, PoolStep, Takes, left_by, opening_state, pool_step}
use Rattle.std.proofs.Common.{Bool, List, None, Option, Some, [], ap, arith, false, inl, inr, length, refl, subst, suc, sym, true, zero, ℕ, ◌<◌, ◌∙◌, ◌∷◌, ◌≡◌, ◌≤◌}
use Rattle.std.proofs.lemmas.Bool.{cases_lt}
use Rattle.std.proofs.lemmas.List.{length-replicate}
use Rattle.std.proofs.lemmas.List.Elements.{recursion_from_All}
use Rattle.std.proofs.lemmas.Option.{same_Some, slice_get_within}
use Rattle.std.specs.List.{AllByRecursion}
use Rattle.std.specs.Prelude.{Contains, if◌then◌else◌, slice_get, ◌==◌, ◌⊎◌}

-- WHO TAKES STEPS

-- the machine doesn't have the party, which holds nothing
record IsAbsent (state : PoolState) (party : ℕ) : Type 0 where
  nowhere : length state.calls ≤ party
  holds : (bucket : ℕ) → is_holder party (slice_get state.flags bucket) ≡ false

module _ (state : PoolState) (party : ℕ) (absent : IsAbsent state party) where
  -- who is there, or holds a bucket, is another
  there : (other : ℕ) (pass : Option ℕ) → slice_get state.calls other ≡ Some pass → (other == party) ≡ false
  there other pass at =
      test_apart other party (λ same. omega (arith, slice_get_within state.calls other pass at, absent.nowhere, same))

  holds : (other bucket : ℕ) → IsHolder state bucket other → (other == party) ≡ false
  holds other bucket held = sym (ap (is_holder party) held) ∙ absent.holds bucket

  another_steps : (step : PoolStep) (move : PoolMove) → StepKind state step move → IsAllowed move.outcome →
      is_by party step ≡ false
  another_steps step move (takes other bucket next free) allowed = there other next.pass next.there
  another_steps step move (takes_at other bucket idle free) allowed = there other None idle
  another_steps step move (loses other bucket next taken more) allowed = there other next.pass next.there
  another_steps step move (is_refused other bucket next taken last) allowed = there other next.pass next.there
  another_steps step move (misses other bucket idle taken) allowed = there other None idle
  another_steps step move (attaches other bucket idle detached) allowed = there other None idle
  another_steps step move (attaches_from other bucket from idle detached) allowed = there other None idle
  another_steps step move (misses_from other bucket from flag idle at apart) allowed = there other None idle
  another_steps step move (finds_token other bucket from idle detached) allowed = there other None idle
  another_steps step move (gives_detached other bucket idle detached) allowed = there other None idle
  another_steps step move (gives other bucket held) allowed = holds other bucket held
  another_steps step move (detaches other bucket held others) allowed = holds other bucket held
  another_steps step move (passes other) allowed = absurd allowed

absent_steps : (state : PoolState) (steps : List PoolStep) (party : ℕ) → IsAbsent state party →
    AllByRecursion (λ (e : PoolEntry). IsAllowed e.outcome) (pool_history state steps) →
    entries_by party (pool_history state steps) ≡ []
absent_steps state [] party absent allowed = refl
absent_steps state (step ∷ steps) party absent (here, rest) =
    let move : PoolMove = pool_step state step in
    let kind = kind_of state step in
    let other = another_steps state party absent step move kind here in
    let now : IsAbsent move.state party = record {
      nowhere = omega (arith, calls-step state step move kind, absent.nowhere);
      holds = λ bucket. sym (step_holds state step move party bucket false kind (sym (absent.holds bucket)))
          ∙ ap (λ (b : Bool). if b then held_after bucket false move.outcome else false) other;
    } in
    let log : PoolLog = entries_by party (pool_history move.state steps) in
    ap (λ (b : Bool). if b then entry_of step move.outcome ∷ log else log) other ∙ absent_steps move.state steps party now rest

-- a party that was not made has no step that is allowed
pub nobody_else : (scene : PoolScene) (steps : List PoolStep) (party : ℕ) → scene.parties ≤ party →
    AllAllowed (history_of scene steps) → log_of scene steps party ≡ []
nobody_else scene steps party past allowed =
    let absent : IsAbsent (opening_state scene) party = record {
      nowhere = omega (arith, length-replicate {A = Option ℕ} scene.parties None, past);
      holds = nobody_holds scene.geometry.buckets party;
    } in
    let each = recursion_from_All (λ (e : PoolEntry). IsAllowed e.outcome) (history_of scene steps) allowed in
    absent_steps (opening_state scene) steps party absent each

-- THE FIRST TAKING

-- an allowed first step takes a bucket, or is a lost attach, which changes nothing
first_kind : (scene : PoolScene) (step : PoolStep) (move : PoolMove) → StepKind (opening_state scene) step move →
    IsAllowed move.outcome →
    ((bucket : ℕ) × (move.outcome ≡ Takes bucket))
    ⊎ (IsLostAttach (entry_of step move.outcome) × (move.state ≡ opening_state scene))
first_kind scene step move (takes party bucket next free) allowed = inl (bucket, refl)
first_kind scene step move (takes_at party bucket idle free) allowed = inl (bucket, refl)
first_kind scene step move (misses_from party bucket from flag idle at apart) allowed = inr ((party, bucket, from, refl), refl)
first_kind scene step move (misses party bucket idle taken) allowed = absurd (none_taken_at_opening scene bucket taken)
first_kind scene step move (loses party bucket next taken more) allowed = absurd (none_taken_at_opening scene bucket taken)
first_kind scene step move (is_refused party bucket next taken last) allowed = absurd (none_taken_at_opening scene bucket taken)
first_kind scene step move (gives party bucket taken) allowed = absurd (none_held_at_opening scene bucket party taken)
first_kind scene step move (detaches party bucket taken others) allowed = absurd (none_held_at_opening scene bucket party taken)
first_kind scene step move (attaches party bucket idle detached) allowed = absurd (none_detached_at_opening scene bucket detached)
first_kind scene step move (attaches_from party bucket from idle detached) allowed =
    absurd (none_detached_at_opening scene bucket (from, detached))
first_kind scene step move (finds_token party bucket from idle detached) allowed =
    absurd (none_detached_at_opening scene bucket (from, detached))
first_kind scene step move (gives_detached party bucket idle detached) allowed =
    absurd (none_detached_at_opening scene bucket detached)
first_kind scene step move (passes other) allowed = absurd allowed

-- some entry of the history takes a bucket
pub record HasTaking (history : PoolLog) : Type 0 where
  pub step : PoolStep
  pub bucket : ℕ
  pub there : Contains history (entry_of step (Takes bucket))

first_or_behind : (first entry : PoolEntry) (rest : PoolLog) → Contains (first ∷ rest) entry →
    (first ≡ entry) ⊎ Contains rest entry
first_or_behind first entry rest (zero, below, same) = inl same
first_or_behind first entry rest (suc k, below, same) = inr (k, omega (arith, below), same)

taking_first : (step : PoolStep) (outcome : PoolOutcome) (rest : PoolLog) (bucket : ℕ) → outcome ≡ Takes bucket →
    HasTaking (entry_of step outcome ∷ rest)
taking_first step outcome rest bucket took = record {
  step = step;
  bucket = bucket;
  there = contains-first (entry_of step outcome) (entry_of step (Takes bucket)) rest (ap (entry_of step) took);
}

taking_behind : (first : PoolEntry) (rest : PoolLog) → HasTaking rest → HasTaking (first ∷ rest)
taking_behind first rest has = record {
  step = has.step;
  bucket = has.bucket;
  there = contains-behind first (entry_of has.step (Takes has.bucket)) rest has.there;
}

some_taking : (scene : PoolScene) (steps : List PoolStep) (entry : PoolEntry) →
    AllByRecursion (λ (e : PoolEntry). IsAllowed e.outcome) (history_of scene steps) → Contains (history_of scene steps) entry →
    ¬ IsLostAttach entry → HasTaking (history_of scene steps)
some_taking scene [] entry allowed has stepped = absurd (contains-none entry has)
some_taking scene (step ∷ steps) entry (here, rest) has stepped =
    let opening : PoolState = opening_state scene in
    let move : PoolMove = pool_step opening step in
    let first : PoolEntry = entry_of step move.outcome in
    let later : PoolLog = pool_history move.state steps in
    elim (first_kind scene step move (kind_of opening step) here) [
      | inl took ↦ taking_first step move.outcome later took.0 took.1
      | inr lost ↦
          let same : later ≡ history_of scene steps = ap (λ (s : PoolState). pool_history s steps) lost.1 in
          let allowed = subst (AllByRecursion (λ (e : PoolEntry). IsAllowed e.outcome)) same rest in
          elim (first_or_behind first entry later has) [
            | inl is ↦ absurd (stepped (subst IsLostAttach is lost.0))
            | inr behind ↦
                taking_behind first later (subst HasTaking (sym same)
                (some_taking scene steps entry allowed (subst (λ (l : PoolLog). Contains l entry) same behind) stepped))
          ]
    ]

-- if all steps are allowed, and some step isn't a lost attach, some step takes a bucket
pub some_step_takes : (scene : PoolScene) (steps : List PoolStep) (entry : PoolEntry) → AllAllowed (history_of scene steps) →
    Contains (history_of scene steps) entry → ¬ IsLostAttach entry → HasTaking (history_of scene steps)
some_step_takes scene steps entry allowed has stepped =
    some_taking scene steps entry
    (recursion_from_All (λ (e : PoolEntry). IsAllowed e.outcome) (history_of scene steps) allowed) has stepped

-- WHAT FLAGS AND LOGS SAY ABOUT EACH OTHER

module _ (scene : PoolScene) (flags : List Flag) (logs : List PoolLog) (bucket : ℕ) (agree : LogsAgree scene flags logs) where
  -- the flags are those of the machine
  pub machine_flag : (flag : Flag) → slice_get flags bucket ≡ Some flag →
      slice_get (left_by scene agree.steps).flags bucket ≡ Some flag
  machine_flag flag is = ap (λ (all : List Flag). slice_get all bucket) agree.leaves ∙ is

  -- one that isn't free is taken
  pub machine_taken : (flag : Flag) → is_taken flag ≡ true → slice_get flags bucket ≡ Some flag →
      IsTaken (left_by scene agree.steps) bucket
  machine_taken Free taken is = absurd (cc)
  machine_taken (HeldBy party) taken is = inl (party, machine_flag (HeldBy party) is)
  machine_taken (DetachedBy party) taken is = inr (party, machine_flag (DetachedBy party) is)

  -- the log of a bucket's holder holds it, and the holder was made
  holder_made : (party : ℕ) → IsHolder (left_by scene agree.steps) bucket party →
      (party < scene.parties) × IsHeldAfter (log_of scene agree.steps party) bucket
  holder_made party held =
      let holds = (holder_in_log scene agree.steps party bucket).0 held in
      elim (cases_lt party scene.parties) [
        | inl made ↦ (made, holds)
        | inr past ↦
            let none = nobody_else scene agree.steps party (omega arith) agree.allowed in
            let held : IsHeldAfter [] bucket = subst (λ (l : PoolLog). IsHeldAfter l bucket) none holds in absurd (cc)
      ]

  -- if each party's log is in the list, a bucket that is taken is held after one of them, or is
  -- detached
  pub taken_is_held_whole : ((party : ℕ) → party < scene.parties → (log : PoolLog) × HasLog logs party log) →
      IsTaken (left_by scene agree.steps) bucket →
      ((party : ℕ) × (log : PoolLog) × (party < scene.parties) × HasLog logs party log × IsHeldAfter log bucket)
      ⊎ IsDetached (left_by scene agree.steps) bucket
  taken_is_held_whole each taken =
      elim taken [
        | inr detached ↦ inr detached
        | inl held ↦
            let made = holder_made held.0 held.1 in
            let own = each held.0 made.0 in
            let holds = subst (λ (l : PoolLog). IsHeldAfter l bucket) (agree.each held.0 own.0 own.1) made.1 in
            inl (held.0, own.0, made.0, own.1, holds)
      ]

-- a party's log holds a bucket exactly if the flag names the party
module _ (scene : PoolScene) (flags : List Flag) (logs : List PoolLog) (party : ℕ) (log : PoolLog) (bucket : ℕ)
    (agree : LogsAgree scene flags logs) (at : HasLog logs party log) where
  pub named_from_log : IsHeldAfter log bucket → slice_get flags bucket ≡ Some (HeldBy party)
  named_from_log holds = sym (ap (λ (all : List Flag). slice_get all bucket) agree.leaves)
      ∙ (holder_in_log scene agree.steps party bucket).1
      (subst (λ (l : PoolLog). IsHeldAfter l bucket) (sym (agree.each party log at)) holds)

  pub log_from_named : slice_get flags bucket ≡ Some (HeldBy party) → IsHeldAfter log bucket
  log_from_named named = subst (λ (l : PoolLog). IsHeldAfter l bucket) (agree.each party log at)
      ((holder_in_log scene agree.steps party bucket).0
      (machine_flag scene flags logs bucket agree (HeldBy party) named))

  pub free_not_held : slice_get flags bucket ≡ Some Free → ¬ IsHeldAfter log bucket
  free_not_held free holds = let same = same_Some Free (HeldBy party) (sym free ∙ named_from_log holds) in absurd (cc)

  pub detached_not_held : IsDetachedIn flags bucket → ¬ IsHeldAfter log bucket
  detached_not_held (sender, detached) holds =
      let same = same_Some (DetachedBy sender) (HeldBy party) (sym detached ∙ named_from_log holds) in absurd (cc)

  pub held_not_detached : IsHeldAfter log bucket → ¬ IsDetachedIn flags bucket
  held_not_detached holds detached = detached_not_held detached holds

pub logs_apart : (scene : PoolScene) (flags : List Flag) (logs : List PoolLog) (party : ℕ) (log : PoolLog) (other : ℕ)
    (other_log : PoolLog) (bucket : ℕ) → LogsAgree scene flags logs → HasLog logs party log →
    HasLog logs other other_log → IsHeldAfter log bucket → IsHeldAfter other_log bucket → party ≡ other
logs_apart scene flags logs party log other other_log bucket agree at other_at holds other_holds =
    let one = named_from_log scene flags logs party log bucket agree at holds in
    let two = named_from_log scene flags logs other other_log bucket agree other_at other_holds in
    let same = same_Some (HeldBy party) (HeldBy other) (sym one ∙ two) in cc

pub taken_is_held_alone : (scene : PoolScene) (flags : List Flag) (logs : List PoolLog) (log : PoolLog) (bucket : ℕ) →
    LogsAgree scene flags logs → scene.parties ≡ 1 → HasLog logs 0 log → (flag : Flag) → is_taken flag ≡ true →
    slice_get flags bucket ≡ Some flag → IsHeldAfter log bucket
taken_is_held_alone scene flags logs log bucket agree one at flag taken is =
    elim (machine_taken scene flags logs bucket agree flag taken is) [
      | inr detached ↦ absurd (none_detached_alone scene agree.steps bucket one detached)
      | inl held ↦
          let made = holder_made scene flags logs bucket agree held.0 held.1 in
          let first : held.0 ≡ 0 = omega (arith, one, made.0) in
          subst (λ (l : PoolLog). IsHeldAfter l bucket) (ap (log_of scene agree.steps) first ∙ agree.each 0 log at) made.1
    ]

-- a bucket's flag may be found so
pub may_be_found : (scene : PoolScene) (flags : List Flag) (logs : List PoolLog) (bucket : ℕ) → LogsAgree scene flags logs →
    (flag : Flag) → slice_get flags bucket ≡ Some flag → MayBeFound scene bucket flag
may_be_found scene flags logs bucket agree flag is = grind (arith, there, machine_flag, names_made)

pub length-flags : (scene : PoolScene) (flags : List Flag) (logs : List PoolLog) →
    LogsAgree scene flags logs → length flags ≡ scene.geometry.buckets
length-flags scene flags logs agree =
    ap (λ (f : List Flag). length f) (sym agree.leaves) ∙ length-left_by scene agree.steps

-- INTERLEAVINGS

-- the steps with which the logs agree are an interleaving of each log with others
pub interleaved_log : (scene : PoolScene) (flags : List Flag) (logs : List PoolLog) (party : ℕ) (log : PoolLog) →
    LogsAgree scene flags logs → HasLog logs party log → Interleaving scene party log
interleaved_log scene flags logs party log agree at =
    record { steps = agree.steps; allowed = agree.allowed; logged = agree.each party log at }

-- the logs of two parties, which are interleaved
pub interleaved_logs : (scene : PoolScene) (flags : List Flag) (logs : List PoolLog) (party : ℕ) (log : PoolLog)
    (other : ℕ) (other_log : PoolLog) → LogsAgree scene flags logs → HasLog logs party log →
    HasLog logs other other_log → CommonInterleaving scene party log other other_log
interleaved_logs scene flags logs party log other other_log agree at other_at = grind arith
