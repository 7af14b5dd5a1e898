-- The logs say who holds a bucket.
use Rattle.bb_memory_lists.proofs.Logs.{fold-own}
use Rattle.bb_memory_lists.proofs.SliceGets.{replicated-figure, slice_get-same, slice_get-set_apart, slice_get-set_at}
use Rattle.bb_memory_pool_machine.proofs.PoolSteps.{StepKind, attaches, attaches_from, detaches, gives, gives_detached, kind_of, takes, takes_at, test_apart, test_same}
use Rattle.bb_memory_pool_machine.specs.PoolLogs.{IsHeldAfter, PoolEntry, PoolLog, entries_by, entry_of, held_after, is_by, log_of, pool_history}
use Rattle.bb_memory_pool_machine.specs.PoolMachine.{DetachedBy, Flag, Free, HeldBy, IsDetached, IsFlag, IsHolder, PoolMove, PoolOutcome, PoolScene, PoolState, PoolStep, left_by, opening_state, pool_after, pool_step}
use Rattle.std.proofs.Common.{Bool, List, None, Option, Some, [], ap, arith, false, refl, replicate, subst, sym, true, ℕ, ◌↔◌, ◌∙◌, ◌∷◌, ◌≡◌}
use Rattle.std.proofs.lemmas.Bool.{eqb-true}
use Rattle.std.proofs.lemmas.Grind.{common_steps}
use Rattle.std.proofs.lemmas.Option.{same_Some}
use Rattle.std.specs.Prelude.{fold, if◌then◌else◌, slice_get, slice_set, ◌==◌}

abbrev pub is_holder : ℕ → Option Flag → Bool
is_holder party (Some (HeldBy holder)) = holder == party
is_holder party _ = false

-- whether a party holds a bucket after entries of its log, given whether it held the bucket before
-- them
abbrev pub held_through : ℕ → Bool → PoolLog → Bool
held_through bucket held log = fold (λ held entry. held_after bucket held entry.outcome) held log

pub either_way : {X : Type 0} (mine : Bool) (x : X) → (if mine then x else x) ≡ x
either_way true x = refl
either_way false x = refl

-- if a flag is set, and at its own bucket the same holds, then whether a party holds a bucket
-- changes as the flags do
held_set : (state : PoolState) (at bucket party other : ℕ) (held now : Bool) (before after : Flag) → IsFlag state at before →
    (held ≡ is_holder party (Some before) → (if other == party then now else held) ≡ is_holder party (Some after)) →
    held ≡ is_holder party (slice_get state.flags bucket) →
    (if other == party then (if at == bucket then now else held) else held)
    ≡ is_holder party (slice_get (slice_set state.flags at after) bucket)
held_set state at bucket party other held now before after there here was =
    grind (arith, common_steps, test_same, slice_get-same, slice_get-set_at, test_apart, either_way, slice_get-set_apart)

when_taken : (mine held : Bool) → held ≡ false → (if mine then true else held) ≡ mine
when_taken true held e = refl
when_taken false held e = e

when_unheld : (mine held : Bool) → held ≡ false → (if mine then false else held) ≡ false
when_unheld true held e = refl
when_unheld false held e = e

when_returned : (mine held : Bool) → held ≡ mine → (if mine then false else held) ≡ false
when_returned true held e = refl
when_returned false held e = e

-- whether a party holds a bucket after any step, given whether it held the bucket before
abbrev held_by : ℕ → ℕ → Bool → PoolStep → PoolOutcome → Bool
held_by party bucket held step outcome = if is_by party step then held_after bucket held outcome else held

-- the holding changes as the flag does
pub step_holds : (state : PoolState) (step : PoolStep) (move : PoolMove) (party bucket : ℕ) (held : Bool) →
    StepKind state step move → held ≡ is_holder party (slice_get state.flags bucket) →
    held_by party bucket held step move.outcome ≡ is_holder party (slice_get move.state.flags bucket)
step_holds state step move party bucket held (takes other at next free) =
    held_set state at bucket party other held true Free (HeldBy other) free (when_taken (other == party) held)
step_holds state step move party bucket held (takes_at other at idle free) =
    held_set state at bucket party other held true Free (HeldBy other) free (when_taken (other == party) held)
step_holds state step move party bucket held (gives other at taken) =
    held_set state at bucket party other held false (HeldBy other) Free taken (when_returned (other == party) held)
step_holds state step move party bucket held (detaches other at taken others) =
    held_set state at bucket party other held false (HeldBy other) (DetachedBy other) taken (when_returned (other == party) held)
step_holds state step move party bucket held (attaches other at idle (sender, detached)) =
    held_set state at bucket party other held true (DetachedBy sender) (HeldBy other) detached (when_taken (other == party) held)
step_holds state step move party bucket held (attaches_from other at from idle detached) =
    held_set state at bucket party other held true (DetachedBy from) (HeldBy other) detached (when_taken (other == party) held)
step_holds state step move party bucket held (gives_detached other at idle (sender, detached)) =
    held_set state at bucket party other held false (DetachedBy sender) Free detached (when_unheld (other == party) held)
step_holds state step move party bucket held _ = λ before. either_way (is_by party step) held ∙ before

-- a figure that each step changes only by the entry of its own party is, after steps, the fold of
-- that party's log
pub steps_fold : {F : Type 0} (Is : PoolState → F → Type 0) (after : F → PoolEntry → F) (party : ℕ) →
    ((state : PoolState) (step : PoolStep) (now : F) → Is state now → let move = pool_step state step in
    Is move.state (if is_by party step then after now (entry_of step move.outcome) else now)) →
    (state : PoolState) (steps : List PoolStep) (now : F) → Is state now →
    Is (pool_after state steps) (fold after now (entries_by party (pool_history state steps)))
steps_fold Is after party each state [] now is = is
steps_fold Is after party each state (step ∷ steps) now is =
    let move : PoolMove = pool_step state step in
    let mine : Bool = is_by party step in
    let entry : PoolEntry = entry_of step move.outcome in
    subst (Is (pool_after move.state steps)) (fold-own after mine now entry (entries_by party (pool_history move.state steps)))
    (steps_fold Is after party each move.state steps (if mine then after now entry else now) (each state step now is))

pub nobody_holds : (n party bucket : ℕ) → is_holder party (slice_get (replicate n Free) bucket) ≡ false
nobody_holds n party bucket = replicated-figure (is_holder party) n bucket Free refl

holder_from_test : (party : ℕ) (found : Option Flag) → is_holder party found ≡ true → found ≡ Some (HeldBy party)
holder_from_test party None e = absurd (cc)
holder_from_test party (Some Free) e = absurd (cc)
holder_from_test party (Some (DetachedBy sender)) e = absurd (cc)
holder_from_test party (Some (HeldBy holder)) e = ap (λ (h : ℕ). Some (HeldBy h)) (eqb-true holder party e)

test_from_holder : (party : ℕ) (found : Option Flag) → found ≡ Some (HeldBy party) → is_holder party found ≡ true
test_from_holder party found e = ap (is_holder party) e ∙ test_same party party refl

-- a flag's holder is the party whose log holds the bucket
pub holder_in_log : (scene : PoolScene) (steps : List PoolStep) (party bucket : ℕ) →
    IsHolder (left_by scene steps) bucket party ↔ IsHeldAfter (log_of scene steps party) bucket
holder_in_log scene steps party bucket =
    let same = steps_fold (λ state held. held ≡ is_holder party (slice_get state.flags bucket))
    (λ held entry. held_after bucket held entry.outcome) party
    (λ state step held is. step_holds state step (pool_step state step) party bucket held (kind_of state step) is)
    (opening_state scene) steps false (sym (nobody_holds scene.geometry.buckets party bucket)) in
    let found = slice_get (left_by scene steps).flags bucket in
    ((λ holder. same ∙ test_from_holder party found holder), (λ holds. holder_from_test party found (sym same ∙ holds)))

-- a flag has one holder
pub same_holder : (state : PoolState) (bucket party other : ℕ) → IsHolder state bucket party → IsHolder state bucket other →
    party ≡ other
same_holder state bucket party other one two =
    let same = same_Some (HeldBy party) (HeldBy other) (sym one ∙ two) in cc

-- no two parties hold one bucket
pub one_holder : (scene : PoolScene) (steps : List PoolStep) (party other bucket : ℕ) →
    IsHeldAfter (log_of scene steps party) bucket → IsHeldAfter (log_of scene steps other) bucket → party ≡ other
one_holder scene steps party other bucket mine yours = grind (arith, holder_in_log, same_holder)

not_detached : (sender party : ℕ) → ¬ (DetachedBy sender ≡ HeldBy party)
not_detached sender party same = absurd (cc)

-- a detached bucket is held after no party's log
pub detached_unheld : (scene : PoolScene) (steps : List PoolStep) (party bucket : ℕ) →
    IsDetached (left_by scene steps) bucket → ¬ IsHeldAfter (log_of scene steps party) bucket
detached_unheld scene steps party bucket (sender, detached) held = not_detached sender party
    (same_Some (DetachedBy sender) (HeldBy party) (sym detached ∙ (holder_in_log scene steps party bucket).1 held))
