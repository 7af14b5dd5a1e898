-- A pool's flags, and which of them are taken.
use Rattle.bb_memory_lists.proofs.SliceGets.{slice_get-replicated, slice_get-set_apart, slice_get-set_at}
use Rattle.bb_memory_pool_machine.proofs.PoolSteps.{StepKind, attaches, attaches_from, calls-left_by, calls-step, detaches, gives, gives_detached, kind_of, takes, takes_at}
use Rattle.bb_memory_pool_machine.specs.PoolLogs.{is_taken}
use Rattle.bb_memory_pool_machine.specs.PoolMachine.{DetachedBy, Flag, Free, HeldBy, IsFlag, IsTaken, NamesMade, PoolMove, PoolScene, PoolState, PoolStep, left_by, opening_state, pool_after, pool_step, with_flag}
use Rattle.std.proofs.Common.{Bool, List, None, Option, Some, [], ap, arith, inl, inr, length, map, refl, subst, sym, true, ℕ, ◌<◌, ◌∙◌, ◌∷◌, ◌≡◌}
use Rattle.std.proofs.lemmas.Option.{slice_get-map, slice_get_within}
use Rattle.std.specs.Prelude.{option_map, slice_get, ◌⊎◌}

taken_from_shown : (found : Option Flag) → option_map is_taken found ≡ Some true →
    ((party : ℕ) × (found ≡ Some (HeldBy party))) ⊎ ((sender : ℕ) × (found ≡ Some (DetachedBy sender)))
taken_from_shown None is = absurd (cc)
taken_from_shown (Some Free) is = absurd (cc)
taken_from_shown (Some (HeldBy party)) is = inl (party, refl)
taken_from_shown (Some (DetachedBy sender)) is = inr (sender, refl)

module _ (state : PoolState) (flags : List Bool) (bucket : ℕ) (same : map is_taken state.flags ≡ flags) where
  shown_at : option_map is_taken (slice_get state.flags bucket) ≡ slice_get flags bucket
  shown_at = sym (slice_get-map is_taken state.flags bucket) ∙ ap (λ (f : List Bool). slice_get f bucket) same

  -- a taken one has a holder, or is detached
  pub taken_from_flag : slice_get flags bucket ≡ Some true → IsTaken state bucket
  taken_from_flag taken = taken_from_shown (slice_get state.flags bucket) (shown_at ∙ taken)

  -- a taken bucket's flag is set in the list
  pub flag_from_taken : IsTaken state bucket → slice_get flags bucket ≡ Some true
  flag_from_taken taken = grind (arith, shown_at)

-- its bucket is there
pub taken_within : (state : PoolState) (bucket : ℕ) → IsTaken state bucket → bucket < length state.flags
taken_within state bucket taken = grind (arith, slice_get_within)

-- WHOM FLAGS NAME

abbrev AllNameMade : PoolState → Type 0
AllNameMade state = (bucket : ℕ) (flag : Flag) → slice_get state.flags bucket ≡ Some flag → NamesMade (length state.calls) flag

-- a flag is set that names a party of the machine, or none
named_set : (state : PoolState) (at : ℕ) (before after : Flag) → IsFlag state at before → AllNameMade state →
    NamesMade (length state.calls) after → AllNameMade (with_flag state at after)
named_set state at before after there named made bucket flag is =
    grind (arith, slice_get-set_at, slice_get-set_apart)

-- who takes a step is one of them
there_is : (state : PoolState) (party : ℕ) (pass : Option ℕ) → slice_get state.calls party ≡ Some pass →
    party < length state.calls
there_is state party pass at = slice_get_within state.calls party pass at

-- each party that a flag names after a step is one of the machine's
named_step : (state : PoolState) (step : PoolStep) (move : PoolMove) → StepKind state step move → AllNameMade state →
    (bucket : ℕ) (flag : Flag) → slice_get move.state.flags bucket ≡ Some flag → NamesMade (length state.calls) flag
named_step state step move (takes party bucket next free) named =
    named_set state bucket Free (HeldBy party) free named (there_is state party next.pass next.there)
named_step state step move (takes_at party bucket idle free) named =
    named_set state bucket Free (HeldBy party) free named (there_is state party None idle)
named_step state step move (gives party bucket held) named = named_set state bucket (HeldBy party) Free held named tt
named_step state step move (detaches party bucket held others) named =
    named_set state bucket (HeldBy party) (DetachedBy party) held named (named bucket (HeldBy party) held)
named_step state step move (attaches party bucket idle (sender, detached)) named =
    named_set state bucket (DetachedBy sender) (HeldBy party) detached named (there_is state party None idle)
named_step state step move (attaches_from party bucket from idle detached) named =
    named_set state bucket (DetachedBy from) (HeldBy party) detached named (there_is state party None idle)
named_step state step move (gives_detached party bucket idle (sender, detached)) named =
    named_set state bucket (DetachedBy sender) Free detached named tt
named_step state step move _ named = named

named_after : (state : PoolState) (steps : List PoolStep) → AllNameMade state → AllNameMade (pool_after state steps)
named_after state [] named = named
named_after state (step ∷ steps) named =
    let move : PoolMove = pool_step state step in
    let kind = kind_of state step in
    named_after move.state steps (λ bucket flag is. subst (λ (n : ℕ). NamesMade n flag) (sym (calls-step state step move kind))
    (named_step state step move kind named bucket flag is))

pub names_made : (scene : PoolScene) (steps : List PoolStep) (bucket : ℕ) (flag : Flag) →
    slice_get (left_by scene steps).flags bucket ≡ Some flag → NamesMade scene.parties flag
names_made scene steps bucket flag is = subst (λ (n : ℕ). NamesMade n flag) (calls-left_by scene steps)
    (named_after (opening_state scene) steps (λ b found free.
    subst (NamesMade (length (opening_state scene).calls))
    (slice_get-replicated scene.geometry.buckets b Free found free) tt) bucket flag is)
