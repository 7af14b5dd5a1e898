-- Which steps of the pool machine leave a detached bucket.
use Rattle.bb_memory_lists.proofs.ListEntries.{any_contained, contains-behind, contains-filter, contains-first, contains-none}
use Rattle.bb_memory_lists.proofs.SliceGets.{slice_get-replicated, slice_get-set_apart, slice_get-set_at}
use Rattle.bb_memory_pool_machine.proofs.PoolPasses.{entry_step}
use Rattle.bb_memory_pool_machine.proofs.PoolSteps.{StepKind, attaches, attaches_from, calls-step, detaches, finds_token, gives, gives_detached, kind_of, length-left_by, misses_from, takes, takes_at, test_same}
use Rattle.bb_memory_pool_machine.specs.PoolLogs.{AttachesFromAt, FindsTokenAt, MissesFromAt, PoolEntry, PoolLog, WasAttachedFrom, WasDetached, entries_by, entry_of, history_of, is_by, log_of, pool_history}
use Rattle.bb_memory_pool_machine.specs.PoolMachine.{AttachFrom, Attaches, Detach, DetachedBy, Detaches, FindToken, Flag, Free, HeldBy, IsDetached, IsFlag, IsHolder, IsTaken, Misses, PoolMove, PoolScene, PoolState, PoolStep, left_by, opening_state, pool_after, pool_step}
use Rattle.std.proofs.Common.{List, None, Option, Some, [], ap, arith, inl, inr, length, refl, subst, suc, sym, zero, ℕ, ◌<◌, ◌∙◌, ◌∷◌, ◌≡◌, ◌≤◌}
use Rattle.std.proofs.lemmas.Bool.{cases_eq}
use Rattle.std.proofs.lemmas.List.{length-replicate}
use Rattle.std.proofs.lemmas.Option.{same_Some, slice_get_within}
use Rattle.std.specs.Prelude.{Bool, Contains, false, if◌then◌else◌, slice_get, slice_set, take, true, ◌⊎◌}

-- at the opening no flag is taken
pub none_held_at_opening : (scene : PoolScene) (bucket party : ℕ) → ¬ IsHolder (opening_state scene) bucket party
none_held_at_opening scene bucket party held =
    let free = slice_get-replicated scene.geometry.buckets bucket Free (HeldBy party) held in absurd (cc)

pub none_detached_at_opening : (scene : PoolScene) (bucket : ℕ) → ¬ IsDetached (opening_state scene) bucket
none_detached_at_opening scene bucket detached =
    let free = slice_get-replicated scene.geometry.buckets bucket Free (DetachedBy detached.0) detached.1 in absurd (cc)

pub none_taken_at_opening : (scene : PoolScene) (bucket : ℕ) → ¬ IsTaken (opening_state scene) bucket
none_taken_at_opening scene bucket taken = elim taken [
  | inl held ↦ none_held_at_opening scene bucket held.0 held.1
  | inr detached ↦ none_detached_at_opening scene bucket detached
]

-- ONE STEP

-- a flag that becomes free, or has a holder then, leaves no other bucket detached by a party than
-- before
detached_set : (state : PoolState) (at bucket sender : ℕ) (before after : Flag) → IsFlag state at before →
    ((other : ℕ) → ¬ (after ≡ DetachedBy other)) →
    slice_get (slice_set state.flags at after) bucket ≡ Some (DetachedBy sender) → IsFlag state bucket (DetachedBy sender)
detached_set state at bucket sender before after there another now =
    grind (arith, slice_get-set_at, slice_get-set_apart)

-- the entry of a step by which a party detaches a bucket
abbrev detaching_entry : ℕ → ℕ → PoolEntry
detaching_entry sender bucket = entry_of (Detach sender bucket) (Detaches bucket)

-- by the step the sender detaches this bucket, if there are at least two parties
record DetachesThis (state : PoolState) (step : PoolStep) (move : PoolMove) (bucket sender : ℕ) : Type 0 where
  entry : entry_of step move.outcome ≡ detaching_entry sender bucket
  others : 1 < length state.calls

detached_here : (at bucket other sender : ℕ) → at ≡ bucket → Some (DetachedBy other) ≡ Some (DetachedBy sender) →
    detaching_entry other at ≡ detaching_entry sender bucket
detached_here at bucket other sender same flag = cc

detached_step : (state : PoolState) (step : PoolStep) (move : PoolMove) (bucket sender : ℕ) → StepKind state step move →
    IsFlag move.state bucket (DetachedBy sender) →
    IsFlag state bucket (DetachedBy sender) ⊎ DetachesThis state step move bucket sender
detached_step state step move bucket sender (takes other at next free) now =
    inl (detached_set state at bucket sender Free (HeldBy other) free (λ sender same. absurd (cc)) now)
detached_step state step move bucket sender (takes_at other at idle free) now =
    inl (detached_set state at bucket sender Free (HeldBy other) free (λ sender same. absurd (cc)) now)
detached_step state step move bucket sender (gives other at taken) now =
    inl (detached_set state at bucket sender (HeldBy other) Free taken (λ sender same. absurd (cc)) now)
detached_step state step move bucket sender (detaches other at taken others) now = elim (cases_eq at bucket) [
  | inl same ↦
      let flag = sym (slice_get-set_at state.flags at bucket (DetachedBy other) (HeldBy other) same taken) ∙ now in
      inr record { entry = detached_here at bucket other sender same flag; others = others }
  | inr apart ↦ inl (sym (slice_get-set_apart state.flags at bucket (DetachedBy other) apart) ∙ now)
]
detached_step state step move bucket sender (attaches other at idle (from, detached)) now =
    inl (detached_set state at bucket sender (DetachedBy from) (HeldBy other) detached (λ sender same. absurd (cc)) now)
detached_step state step move bucket sender (attaches_from other at from idle detached) now =
    inl (detached_set state at bucket sender (DetachedBy from) (HeldBy other) detached (λ sender same. absurd (cc)) now)
detached_step state step move bucket sender (gives_detached other at idle (from, detached)) now =
    inl (detached_set state at bucket sender (DetachedBy from) Free detached (λ sender same. absurd (cc)) now)
detached_step state step move bucket sender _ now = inl now

-- IF THERE IS NO OTHER PARTY

-- a machine with one party detaches no bucket
detached_alone : (state : PoolState) (steps : List PoolStep) (bucket : ℕ) → length state.calls ≤ 1 →
    ¬ IsDetached state bucket → ¬ IsDetached (pool_after state steps) bucket
detached_alone state [] bucket few none = none
detached_alone state (step ∷ steps) bucket few none =
    let move : PoolMove = pool_step state step in
    let same = calls-step state step move (kind_of state step) in
    detached_alone move.state steps bucket (omega (arith, same, few)) (λ now.
    elim (detached_step state step move bucket now.0 (kind_of state step) now.1) [
      | inl before ↦ none (now.0, before)
      | inr this ↦ let others = this.others in absurd (omega (arith, others, few))
    ])

pub none_detached_alone : (scene : PoolScene) (steps : List PoolStep) (bucket : ℕ) → scene.parties ≡ 1 →
    ¬ IsDetached (left_by scene steps) bucket
none_detached_alone scene steps bucket one =
    let made = length-replicate {A = Option ℕ} scene.parties None in
    detached_alone (opening_state scene) steps bucket (omega (arith, made, one))
    (none_detached_at_opening scene bucket)

-- WHO DETACHED IT

-- a bucket that a party has detached was detached before, or the party has detached it by one of
-- the steps
detached_steps : (state : PoolState) (steps : List PoolStep) (bucket sender : ℕ) →
    IsFlag (pool_after state steps) bucket (DetachedBy sender) →
    IsFlag state bucket (DetachedBy sender) ⊎ Contains (pool_history state steps) (detaching_entry sender bucket)
detached_steps state [] bucket sender now = inl now
detached_steps state (step ∷ steps) bucket sender now =
    let move : PoolMove = pool_step state step in
    let entry : PoolEntry = entry_of step move.outcome in
    let rest : PoolLog = pool_history move.state steps in
    let detaching : PoolEntry = detaching_entry sender bucket in
    elim (detached_steps move.state steps bucket sender now) [
      | inl next ↦ elim (detached_step state step move bucket sender (kind_of state step) next) [
        | inl before ↦ inl before
        | inr this ↦ inr (contains-first entry detaching rest this.entry)
      ]
      | inr later ↦ inr (contains-behind entry detaching rest later)
    ]

detaching_there : (scene : PoolScene) (steps : List PoolStep) (bucket sender : ℕ) →
    IsFlag (left_by scene steps) bucket (DetachedBy sender) →
    Contains (history_of scene steps) (detaching_entry sender bucket)
detaching_there scene steps bucket sender now = elim (detached_steps (opening_state scene) steps bucket sender now) [
  | inl before ↦ absurd (none_detached_at_opening scene bucket (sender, before))
  | inr detaching ↦ detaching
]

from_entry : (log : PoolLog) (bucket sender : ℕ) → Contains log (detaching_entry sender bucket) → WasDetached log bucket
from_entry log bucket sender there =
    any_contained (λ (e : PoolEntry). e.outcome ≡ Detaches bucket) log (detaching_entry sender bucket) there refl

pub was_detached_before : (scene : PoolScene) (steps : List PoolStep) (bucket : ℕ) → IsDetached (left_by scene steps) bucket →
    WasDetached (history_of scene steps) bucket
was_detached_before scene steps bucket (sender, now) =
    from_entry (history_of scene steps) bucket sender (detaching_there scene steps bucket sender now)

in_log : (scene : PoolScene) (steps : List PoolStep) (bucket sender : ℕ) →
    Contains (history_of scene steps) (detaching_entry sender bucket) → WasDetached (log_of scene steps sender) bucket
in_log scene steps bucket sender there =
    from_entry (log_of scene steps sender) bucket sender
    (contains-filter (λ (e : PoolEntry). is_by sender e.step) (history_of scene steps) (detaching_entry sender bucket) there
    (test_same sender sender refl))

-- the log of the party that has detached a bucket has that step
pub was_detached_by : (scene : PoolScene) (steps : List PoolStep) (bucket sender : ℕ) →
    IsFlag (left_by scene steps) bucket (DetachedBy sender) → WasDetached (log_of scene steps sender) bucket
was_detached_by scene steps bucket sender now = in_log scene steps bucket sender (detaching_there scene steps bucket sender now)

-- ATTACHED FROM A PARTY

detached_at_attach : (state : PoolState) (step : PoolStep) (move : PoolMove) (party bucket from : ℕ) → StepKind state step move →
    step ≡ AttachFrom party bucket from → move.outcome ≡ Attaches bucket → IsFlag state bucket (DetachedBy from)
detached_at_attach state step move party bucket from (attaches_from other at sender idle detached) same is = grind arith
detached_at_attach state step move party bucket from _ same is = absurd (cc)

-- a bucket that is attached from a party is then detached by this party, as its log shows
pub attached_from_sender : (scene : PoolScene) (steps : List PoolStep) (party bucket from k : ℕ) →
    AttachesFromAt (history_of scene steps) party bucket from k →
    IsFlag (left_by scene (take k steps)) bucket (DetachedBy from) × WasDetached (log_of scene (take k steps) from) bucket
attached_from_sender scene steps party bucket from k attached =
    let there : PoolState = left_by scene (take k steps) in
    let step : PoolStep = AttachFrom party bucket from in
    let flag = detached_at_attach there step (pool_step there step) party bucket from (kind_of there step) refl
    (entry_step (opening_state scene) steps k step (Attaches bucket) attached) in
    (flag, was_detached_by scene (take k steps) bucket from flag)

-- MISSED FROM A PARTY

undetached_at_miss : (state : PoolState) (step : PoolStep) (move : PoolMove) (party bucket from : ℕ) → StepKind state step move →
    step ≡ AttachFrom party bucket from → move.outcome ≡ Misses bucket →
    (bucket < length state.flags) × (¬ IsFlag state bucket (DetachedBy from))
undetached_at_miss state step move party bucket from (misses_from other at sender flag idle found apart) same is =
    let its : at ≡ bucket = cc in
    let whose : sender ≡ from = cc in
    let there = subst (λ (b : ℕ). IsFlag state b flag) its found in (
      slice_get_within state.flags bucket flag there,
      λ sent. apart (same_Some flag (DetachedBy from) (sym there ∙ sent) ∙ ap DetachedBy (sym whose)),
    )
undetached_at_miss state step move party bucket from _ same is = absurd (cc)

-- a bucket that a party misses when it tries to attach the bucket from a sender isn't detached by
-- this sender
pub missed_from_sender : (scene : PoolScene) (steps : List PoolStep) (party bucket from k : ℕ) →
    MissesFromAt (history_of scene steps) party bucket from k →
    (bucket < scene.geometry.buckets) × (¬ IsFlag (left_by scene (take k steps)) bucket (DetachedBy from))
missed_from_sender scene steps party bucket from k missed =
    let there : PoolState = left_by scene (take k steps) in
    let step : PoolStep = AttachFrom party bucket from in
    let found = undetached_at_miss there step (pool_step there step) party bucket from (kind_of there step) refl
    (entry_step (opening_state scene) steps k step (Misses bucket) missed) in
    let within = found.0 in
    (omega (arith, within, length-left_by scene (take k steps)), found.1)

detached_at_token : (state : PoolState) (step : PoolStep) (move : PoolMove) (party bucket from : ℕ) → StepKind state step move →
    step ≡ FindToken party bucket from → move.outcome ≡ Misses bucket → IsFlag state bucket (DetachedBy from)
detached_at_token state step move party bucket from (finds_token other at sender idle detached) same is = grind arith
detached_at_token state step move party bucket from _ same is = absurd (cc)

-- a bucket whose token a party finds is then detached by the sender that the party named, as that
-- sender's log shows
pub token_from_sender : (scene : PoolScene) (steps : List PoolStep) (party bucket from k : ℕ) →
    FindsTokenAt (history_of scene steps) party bucket from k →
    IsFlag (left_by scene (take k steps)) bucket (DetachedBy from) × WasDetached (log_of scene (take k steps) from) bucket
token_from_sender scene steps party bucket from k found =
    let there : PoolState = left_by scene (take k steps) in
    let step : PoolStep = FindToken party bucket from in
    let flag = detached_at_token there step (pool_step there step) party bucket from (kind_of there step) refl
    (entry_step (opening_state scene) steps k step (Misses bucket) found) in
    (flag, was_detached_by scene (take k steps) bucket from flag)

-- WHOSE LOG HAS A STEP

-- each entry of a party's log is in the history
kept_there : (own : Bool) (first entry : PoolEntry) (kept rest : PoolLog) → (Contains kept entry → Contains rest entry) →
    Contains (if own then first ∷ kept else kept) entry → Contains (first ∷ rest) entry
kept_there false first entry kept rest there has = contains-behind first entry rest (there has)
kept_there true first entry kept rest there (zero, below, same) = contains-first first entry rest same
kept_there true first entry kept rest there (suc k, below, same) =
    contains-behind first entry rest (there (k, omega (arith, below), same))

pub in_history : (party : ℕ) (history : PoolLog) (entry : PoolEntry) → Contains (entries_by party history) entry →
    Contains history entry
in_history party [] entry has = absurd (contains-none entry has)
in_history party (first ∷ rest) entry has =
    kept_there (is_by party first.step) first entry (entries_by party rest) rest (in_history party rest entry) has

-- the sender of a bucket that is attached from it had detached the bucket before the steps, or
-- detaches it by one of them
sent_in_steps : (state : PoolState) (steps : List PoolStep) (party bucket from : ℕ) →
    Contains (pool_history state steps) (entry_of (AttachFrom party bucket from) (Attaches bucket)) →
    IsFlag state bucket (DetachedBy from) ⊎ Contains (pool_history state steps) (detaching_entry from bucket)
sent_in_steps state [] party bucket from has =
    absurd (contains-none (entry_of (AttachFrom party bucket from) (Attaches bucket)) has)
sent_in_steps state (step ∷ steps) party bucket from (zero, below, same) =
    inl (detached_at_attach state step (pool_step state step) party bucket from (kind_of state step)
    (ap (λ (e : PoolEntry). e.step) same) (ap (λ (e : PoolEntry). e.outcome) same))
sent_in_steps state (step ∷ steps) party bucket from (suc k, below, same) =
    let move : PoolMove = pool_step state step in
    let entry : PoolEntry = entry_of step move.outcome in
    let rest : PoolLog = pool_history move.state steps in
    let detaching : PoolEntry = detaching_entry from bucket in
    elim (sent_in_steps move.state steps party bucket from (k, omega (arith, below), same)) [
      | inl next ↦ elim (detached_step state step move bucket from (kind_of state step) next) [
        | inl before ↦ inl before
        | inr this ↦ inr (contains-first entry detaching rest this.entry)
      ]
      | inr later ↦ inr (contains-behind entry detaching rest later)
    ]

-- a party's log has attached a bucket from a sender only if the sender's log has detached the
-- bucket
pub sender_detached : (scene : PoolScene) (steps : List PoolStep) (party bucket from : ℕ) →
    WasAttachedFrom (log_of scene steps party) bucket from → WasDetached (log_of scene steps from) bucket
sender_detached scene steps party bucket from (own, has) =
    let attaching : PoolEntry = entry_of (AttachFrom own bucket from) (Attaches bucket) in
    let there = in_history party (history_of scene steps) attaching has in
    elim (sent_in_steps (opening_state scene) steps own bucket from there) [
      | inl before ↦ absurd (none_detached_at_opening scene bucket (from, before))
      | inr detaching ↦ in_log scene steps bucket from detaching
    ]
