-- Steps of the pool machine, by their kinds.
use Rattle.bb_memory_pool_machine.specs.PoolMachine.{Attach, AttachFrom, Detach, DetachedBy, FindToken, Flag, Free, GiveBack, GiveBackDetached, HeldBy, IsDetached, IsFlag, IsHolder, IsTaken, Loses, Misses, PoolMove, PoolScene, PoolState, PoolStep, RefusedAtLoss, Try, TryAt, attach, attach_flag, attach_from, attach_from_flag, attaching, detach_flag, detaching, find_token, find_token_flag, give_detached, give_detached_flag, give_flag, left_by, move_of, opening_state, passed, pool_after, pool_step, return_of, taking, try_at, try_flag, try_next, try_one, with_pass}
use Rattle.std.proofs.Common.{Bool, List, None, Option, Some, [], ap, false, inl, inr, length, refl, sym, true, ℕ, ◌+◌, ◌<◌, ◌∙◌, ◌∷◌, ◌≡◌, ◌≢◌, ◌≤◌}
use Rattle.std.proofs.lemmas.Bool.{eq-eqb, eqb-true, false≢true, ltb-false, ltb-true, ne_eqb}
use Rattle.std.proofs.lemmas.List.{length-replicate, length-set}
use Rattle.std.specs.Prelude.{if◌then◌else◌, nat_lt, slice_get, unwrap_or, ◌==◌}

-- the party's pass is at this bucket, or begins there
pub record IsNext (state : PoolState) (party bucket : ℕ) : Type 0 where
  pub pass : Option ℕ
  pub there : slice_get state.calls party ≡ Some pass
  pub at : unwrap_or pass 0 ≡ bucket

-- the party is there, and in no pass
abbrev pub IsIdle : PoolState → ℕ → Type 0
IsIdle state party = slice_get state.calls party ≡ Some None

-- a pass of an idle party would begin at bucket 0
pub next_of_idle : (state : PoolState) (party : ℕ) → IsIdle state party → IsNext state party 0
next_of_idle state party idle = record { pass = None; there = idle; at = refl }

-- a step that makes this move is one of these
pub data StepKind (state : PoolState) : PoolStep → PoolMove → Type 0 where
  takes : (party bucket : ℕ) → IsNext state party bucket → IsFlag state bucket Free →
      StepKind state (Try party) (taking state party bucket)
  loses : (party bucket : ℕ) → IsNext state party bucket → IsTaken state bucket → bucket + 1 < length state.flags →
      StepKind state (Try party) (move_of (Loses bucket) (with_pass state party (Some (bucket + 1))))
  is_refused : (party bucket : ℕ) → IsNext state party bucket → IsTaken state bucket → length state.flags ≤ bucket + 1 →
      StepKind state (Try party) (move_of (RefusedAtLoss bucket) (with_pass state party None))
  gives : (party bucket : ℕ) → IsHolder state bucket party → StepKind state (GiveBack party bucket) (return_of state bucket)
  takes_at : (party bucket : ℕ) → IsIdle state party → IsFlag state bucket Free →
      StepKind state (TryAt party bucket) (taking state party bucket)
  misses : (party bucket : ℕ) → IsIdle state party → IsTaken state bucket →
      StepKind state (TryAt party bucket) (move_of (Misses bucket) state)
  detaches : (party bucket : ℕ) → IsHolder state bucket party → 1 < length state.calls →
      StepKind state (Detach party bucket) (detaching state party bucket)
  attaches : (party bucket : ℕ) → IsIdle state party → IsDetached state bucket →
      StepKind state (Attach party bucket) (attaching state party bucket)
  attaches_from : (party bucket from : ℕ) → IsIdle state party → IsFlag state bucket (DetachedBy from) →
      StepKind state (AttachFrom party bucket from) (attaching state party bucket)
  misses_from : (party bucket from : ℕ) (flag : Flag) → IsIdle state party → IsFlag state bucket flag → flag ≢ DetachedBy from →
      StepKind state (AttachFrom party bucket from) (move_of (Misses bucket) state)
  finds_token : (party bucket from : ℕ) → IsIdle state party → IsFlag state bucket (DetachedBy from) →
      StepKind state (FindToken party bucket from) (move_of (Misses bucket) state)
  gives_detached : (party bucket : ℕ) → IsIdle state party → IsDetached state bucket →
      StepKind state (GiveBackDetached party bucket) (return_of state bucket)
  passes : (step : PoolStep) → StepKind state step (passed state)

-- TESTS

pub test_same : (m n : ℕ) → m ≡ n → (m == n) ≡ true
test_same m n e = eq-eqb m n e

pub test_apart : (m n : ℕ) → m ≢ n → (m == n) ≡ false
test_apart m n e = ne_eqb m n e

-- KINDS

module _ (state : PoolState) (party bucket : ℕ) where
  kind_of_loss : (more : Bool) → nat_lt (bucket + 1) (length state.flags) ≡ more → IsNext state party bucket →
      IsTaken state bucket → StepKind state (Try party) (if more
      then move_of (Loses bucket) (with_pass state party (Some (bucket + 1)))
      else move_of (RefusedAtLoss bucket) (with_pass state party None))
  kind_of_loss true test next taken = loses party bucket next taken (ltb-true (bucket + 1) (length state.flags) test)
  kind_of_loss false test next taken = is_refused party bucket next taken (ltb-false (bucket + 1) (length state.flags) test)

  kind_of_exchange : (found : Option Flag) → IsNext state party bucket → slice_get state.flags bucket ≡ found →
      StepKind state (Try party) (try_flag state party bucket found)
  kind_of_exchange None next is = passes (Try party)
  kind_of_exchange (Some Free) next is = takes party bucket next is
  kind_of_exchange (Some (HeldBy holder)) next is =
      kind_of_loss (nat_lt (bucket + 1) (length state.flags)) refl next (inl (holder, is))
  kind_of_exchange (Some (DetachedBy sender)) next is =
      kind_of_loss (nat_lt (bucket + 1) (length state.flags)) refl next (inr (sender, is))

  own_flag : (holder : ℕ) → (holder == party) ≡ true → IsHolder state bucket holder → IsHolder state bucket party
  own_flag holder test held = held ∙ ap (λ (h : ℕ). Some (HeldBy h)) (eqb-true holder party test)

  kind_of_return : (holder : ℕ) (same : Bool) → (holder == party) ≡ same → IsHolder state bucket holder →
      StepKind state (GiveBack party bucket) (if same then return_of state bucket else passed state)
  kind_of_return holder true test held = gives party bucket (own_flag holder test held)
  kind_of_return holder false test held = passes (GiveBack party bucket)

  kind_of_give : (found : Option Flag) → slice_get state.flags bucket ≡ found →
      StepKind state (GiveBack party bucket) (give_flag state party bucket found)
  kind_of_give (Some (HeldBy holder)) is = kind_of_return holder (holder == party) refl is
  kind_of_give _ is = passes (GiveBack party bucket)

  kind_of_one : (found : Option Flag) → IsIdle state party → slice_get state.flags bucket ≡ found →
      StepKind state (TryAt party bucket) (try_one state party bucket found)
  kind_of_one None idle is = passes (TryAt party bucket)
  kind_of_one (Some Free) idle is = takes_at party bucket idle is
  kind_of_one (Some (HeldBy holder)) idle is = misses party bucket idle (inl (holder, is))
  kind_of_one (Some (DetachedBy sender)) idle is = misses party bucket idle (inr (sender, is))

  kind_of_try_at : (found : Option (Option ℕ)) → slice_get state.calls party ≡ found →
      StepKind state (TryAt party bucket) (try_at state party bucket found)
  kind_of_try_at (Some None) is = kind_of_one (slice_get state.flags bucket) is refl
  kind_of_try_at _ is = passes (TryAt party bucket)

  kind_of_detach_of : (holder : ℕ) (same others : Bool) → (holder == party) ≡ same → nat_lt 1 (length state.calls) ≡ others →
      IsHolder state bucket holder → StepKind state (Detach party bucket)
      (if same then (if others then detaching state party bucket else passed state) else passed state)
  kind_of_detach_of holder true true test more held =
      detaches party bucket (own_flag holder test held) (ltb-true 1 (length state.calls) more)
  kind_of_detach_of holder true false test more held = passes (Detach party bucket)
  kind_of_detach_of holder false others test more held = passes (Detach party bucket)

  kind_of_detach : (found : Option Flag) → slice_get state.flags bucket ≡ found →
      StepKind state (Detach party bucket) (detach_flag state party bucket found)
  kind_of_detach (Some (HeldBy holder)) is =
      kind_of_detach_of holder (holder == party) (nat_lt 1 (length state.calls)) refl refl is
  kind_of_detach _ is = passes (Detach party bucket)

  kind_of_attach_flag : (found : Option Flag) → IsIdle state party → slice_get state.flags bucket ≡ found →
      StepKind state (Attach party bucket) (attach_flag state party bucket found)
  kind_of_attach_flag (Some (DetachedBy sender)) idle is = attaches party bucket idle (sender, is)
  kind_of_attach_flag _ idle is = passes (Attach party bucket)

  kind_of_attach : (found : Option (Option ℕ)) → slice_get state.calls party ≡ found →
      StepKind state (Attach party bucket) (attach state party bucket found)
  kind_of_attach (Some None) is = kind_of_attach_flag (slice_get state.flags bucket) is refl
  kind_of_attach _ is = passes (Attach party bucket)

  sent_flag : (sender from : ℕ) → (sender == from) ≡ true → IsFlag state bucket (DetachedBy sender) →
      IsFlag state bucket (DetachedBy from)
  sent_flag sender from test is = is ∙ ap (λ (s : ℕ). Some (DetachedBy s)) (eqb-true sender from test)

  by_another : (sender from : ℕ) → (sender == from) ≡ false → DetachedBy sender ≢ DetachedBy from
  by_another sender from test same = let is : sender ≡ from = cc in false≢true (sym test ∙ test_same sender from is)

  kind_of_attach_from_of : (sender from : ℕ) (same : Bool) → (sender == from) ≡ same → IsIdle state party →
      IsFlag state bucket (DetachedBy sender) → StepKind state (AttachFrom party bucket from)
      (if same then attaching state party bucket else move_of (Misses bucket) state)
  kind_of_attach_from_of sender from true test idle is = attaches_from party bucket from idle (sent_flag sender from test is)
  kind_of_attach_from_of sender from false test idle is =
      misses_from party bucket from (DetachedBy sender) idle is (by_another sender from test)

  kind_of_attach_from_flag : (from : ℕ) (found : Option Flag) → IsIdle state party → slice_get state.flags bucket ≡ found →
      StepKind state (AttachFrom party bucket from) (attach_from_flag state party bucket from found)
  kind_of_attach_from_flag from (Some (DetachedBy sender)) idle is =
      kind_of_attach_from_of sender from (sender == from) refl idle is
  kind_of_attach_from_flag from (Some Free) idle is = misses_from party bucket from Free idle is (λ same. absurd (cc))
  kind_of_attach_from_flag from (Some (HeldBy holder)) idle is =
      misses_from party bucket from (HeldBy holder) idle is (λ same. absurd (cc))
  kind_of_attach_from_flag from None idle is = passes (AttachFrom party bucket from)

  kind_of_attach_from : (from : ℕ) (found : Option (Option ℕ)) → slice_get state.calls party ≡ found →
      StepKind state (AttachFrom party bucket from) (attach_from state party bucket from found)
  kind_of_attach_from from (Some None) is = kind_of_attach_from_flag from (slice_get state.flags bucket) is refl
  kind_of_attach_from from _ is = passes (AttachFrom party bucket from)

  kind_of_find_token_of : (sender from : ℕ) (same : Bool) → (sender == from) ≡ same → IsIdle state party →
      IsFlag state bucket (DetachedBy sender) → StepKind state (FindToken party bucket from)
      (if same then move_of (Misses bucket) state else passed state)
  kind_of_find_token_of sender from true test idle is = finds_token party bucket from idle (sent_flag sender from test is)
  kind_of_find_token_of sender from false test idle is = passes (FindToken party bucket from)

  kind_of_find_token_flag : (from : ℕ) (found : Option Flag) → IsIdle state party → slice_get state.flags bucket ≡ found →
      StepKind state (FindToken party bucket from) (find_token_flag state bucket from found)
  kind_of_find_token_flag from (Some (DetachedBy sender)) idle is =
      kind_of_find_token_of sender from (sender == from) refl idle is
  kind_of_find_token_flag from _ idle is = passes (FindToken party bucket from)

  kind_of_find_token : (from : ℕ) (found : Option (Option ℕ)) → slice_get state.calls party ≡ found →
      StepKind state (FindToken party bucket from) (find_token state bucket from found)
  kind_of_find_token from (Some None) is = kind_of_find_token_flag from (slice_get state.flags bucket) is refl
  kind_of_find_token from _ is = passes (FindToken party bucket from)

  kind_of_give_detached_flag : (found : Option Flag) → IsIdle state party → slice_get state.flags bucket ≡ found →
      StepKind state (GiveBackDetached party bucket) (give_detached_flag state bucket found)
  kind_of_give_detached_flag (Some (DetachedBy sender)) idle is = gives_detached party bucket idle (sender, is)
  kind_of_give_detached_flag _ idle is = passes (GiveBackDetached party bucket)

  kind_of_give_detached : (found : Option (Option ℕ)) → slice_get state.calls party ≡ found →
      StepKind state (GiveBackDetached party bucket) (give_detached state bucket found)
  kind_of_give_detached (Some None) is = kind_of_give_detached_flag (slice_get state.flags bucket) is refl
  kind_of_give_detached _ is = passes (GiveBackDetached party bucket)

kind_of_try : (state : PoolState) (party : ℕ) (found : Option (Option ℕ)) → slice_get state.calls party ≡ found →
    StepKind state (Try party) (try_next state party found)
kind_of_try state party None is = passes (Try party)
kind_of_try state party (Some pass) is =
    let bucket : ℕ = unwrap_or pass 0 in
    kind_of_exchange state party bucket (slice_get state.flags bucket) (record { pass = pass; there = is; at = refl }) refl

-- each step is of some kind
pub kind_of : (state : PoolState) (step : PoolStep) → StepKind state step (pool_step state step)
kind_of state (Try party) = kind_of_try state party (slice_get state.calls party) refl
kind_of state (GiveBack party bucket) = kind_of_give state party bucket (slice_get state.flags bucket) refl
kind_of state (TryAt party bucket) = kind_of_try_at state party bucket (slice_get state.calls party) refl
kind_of state (Detach party bucket) = kind_of_detach state party bucket (slice_get state.flags bucket) refl
kind_of state (Attach party bucket) = kind_of_attach state party bucket (slice_get state.calls party) refl
kind_of state (AttachFrom party bucket from) = kind_of_attach_from state party bucket from (slice_get state.calls party) refl
kind_of state (FindToken party bucket from) = kind_of_find_token state party bucket from (slice_get state.calls party) refl
kind_of state (GiveBackDetached party bucket) = kind_of_give_detached state party bucket (slice_get state.calls party) refl

-- HOW MANY FLAGS THERE ARE

pub length-step : (state : PoolState) (step : PoolStep) (move : PoolMove) → StepKind state step move →
    length move.state.flags ≡ length state.flags
length-step state step move (takes party bucket next free) = length-set state.flags bucket (HeldBy party)
length-step state step move (takes_at party bucket idle free) = length-set state.flags bucket (HeldBy party)
length-step state step move (gives party bucket held) = length-set state.flags bucket Free
length-step state step move (detaches party bucket held others) = length-set state.flags bucket (DetachedBy party)
length-step state step move (attaches party bucket idle detached) = length-set state.flags bucket (HeldBy party)
length-step state step move (attaches_from party bucket from idle detached) = length-set state.flags bucket (HeldBy party)
length-step state step move (gives_detached party bucket idle detached) = length-set state.flags bucket Free
length-step state step move _ = refl

-- steps leave the number of flags unchanged
pub length-after : (state : PoolState) (steps : List PoolStep) → length (pool_after state steps).flags ≡ length state.flags
length-after state [] = refl
length-after state (step ∷ steps) =
    let move : PoolMove = pool_step state step in
    length-after move.state steps ∙ length-step state step move (kind_of state step)

-- there is always one flag for each bucket
pub length-left_by : (scene : PoolScene) (steps : List PoolStep) → length (left_by scene steps).flags ≡ scene.geometry.buckets
length-left_by scene steps = length-after (opening_state scene) steps ∙ length-replicate {A = Flag} scene.geometry.buckets Free

-- HOW MANY PARTIES THERE ARE

pub calls-step : (state : PoolState) (step : PoolStep) (move : PoolMove) → StepKind state step move →
    length move.state.calls ≡ length state.calls
calls-step state step move (takes party bucket next free) = length-set state.calls party None
calls-step state step move (takes_at party bucket idle free) = length-set state.calls party None
calls-step state step move (loses party bucket next taken more) = length-set state.calls party (Some (bucket + 1))
calls-step state step move (is_refused party bucket next taken last) = length-set state.calls party None
calls-step state step move _ = refl

calls-after : (state : PoolState) (steps : List PoolStep) → length (pool_after state steps).calls ≡ length state.calls
calls-after state [] = refl
calls-after state (step ∷ steps) =
    let move : PoolMove = pool_step state step in
    calls-after move.state steps ∙ calls-step state step move (kind_of state step)

-- the number of parties never changes
pub calls-left_by : (scene : PoolScene) (steps : List PoolStep) → length (left_by scene steps).calls ≡ scene.parties
calls-left_by scene steps = calls-after (opening_state scene) steps ∙ length-replicate {A = Option ℕ} scene.parties None
