-- Each step that a party's log allows leaves flags and logs that agree.
use Rattle.bb_memory_pool_machine.proofs.PoolLogEntries.{agree_on, log_pass}
use Rattle.bb_memory_pool_machine.proofs.PoolLogFacts.{machine_flag, named_from_log}
use Rattle.bb_memory_pool_machine.proofs.PoolSteps.{calls-left_by, length-left_by, test_apart, test_same}
use Rattle.bb_memory_pool_machine.specs.PoolLogs.{HasLog, IsAllowed, IsDetachedIn, IsHeldAfter, LogsAgree, PoolEntry, PoolLog, entry_of, is_taken, loss_at, next_bucket, pass_in, with_entry}
use Rattle.bb_memory_pool_machine.specs.PoolMachine.{Attach, AttachFrom, Attaches, Detach, DetachedBy, Detaches, FindToken, Flag, Free, GiveBack, GiveBackDetached, Gives, HeldBy, Loses, Misses, PoolScene, PoolState, RefusedAtLoss, Takes, Try, TryAt, attach, attach_flag, attach_from, attach_from_flag, attaching, detach, detach_flag, detaching, find_token, find_token_flag, give_detached, give_detached_flag, give_flag, left_by, loss, move_of, passed, pool_step, return_of, taking, try_at, try_flag, try_next, try_one, with_pass}
use Rattle.std.proofs.Common.{Bool, List, None, Option, Some, ap, arith, false, length, refl, replicate, subst, sym, true, ℕ, ◌+◌, ◌<◌, ◌∙◌, ◌≡◌, ◌≢◌}
use Rattle.std.proofs.lemmas.Bool.{lt-ltb}
use Rattle.std.proofs.lemmas.List.Elements.{All-nil}
use Rattle.std.proofs.lemmas.Option.{get_or_from_slice_get, slice_get_within}
use Rattle.std.specs.Prelude.{All, [], if◌then◌else◌, nat_lt, slice_get, slice_set}

-- A party was made, its log is in the list, and flags and logs agree.
module _ (scene : PoolScene) (flags : List Flag) (logs : List PoolLog) (party : ℕ) (log : PoolLog) (bucket : ℕ)
    (agree : LogsAgree scene flags logs) (made : party < scene.parties) (at : HasLog logs party log) where
  abbrev state : PoolState
  state = left_by scene agree.steps

  pass_there : (pass : Option ℕ) → pass_in log ≡ pass → slice_get state.calls party ≡ Some pass
  pass_there pass is =
      log_pass scene agree.steps party made ∙ ap (λ (l : PoolLog). Some (pass_in l)) (agree.each party log at) ∙ ap Some is

  there : (flag : Flag) → slice_get flags bucket ≡ Some flag → slice_get state.flags bucket ≡ Some flag
  there flag is = machine_flag scene flags logs bucket agree flag is

  -- the flag at the bucket becomes this one
  becomes : (flag : Flag) → slice_set state.flags bucket flag ≡ slice_set flags bucket flag
  becomes flag = ap (λ (all : List Flag). slice_set all bucket flag) agree.leaves

  -- STEPS OF AN IDLE PARTY, OR OF ONE IN A PASS

  -- the party tries the bucket that its log determines, or one bucket if the party is idle
  tries : next_bucket log ≡ bucket → (flag : Flag) → slice_get flags bucket ≡ Some flag →
      pool_step state (Try party) ≡ try_flag state party bucket (Some flag)
  tries next flag is =
      ap (try_next state party) (pass_there (pass_in log) refl)
      ∙ ap (λ (b : ℕ). try_flag state party b (slice_get state.flags b)) next ∙ ap (try_flag state party bucket) (there flag is)

  tries_one : pass_in log ≡ None → (flag : Flag) → slice_get flags bucket ≡ Some flag →
      pool_step state (TryAt party bucket) ≡ try_one state party bucket (Some flag)
  tries_one idle flag is =
      ap (try_at state party bucket) (pass_there None idle) ∙ ap (try_one state party bucket) (there flag is)

  pub take_agrees : next_bucket log ≡ bucket → slice_get flags bucket ≡ Some Free →
      LogsAgree scene (slice_set flags bucket (HeldBy party)) (with_entry logs party log (entry_of (Try party) (Takes bucket)))
  take_agrees next free =
      agree_on scene flags logs party log agree at (Try party) (λ other. refl) (taking state party bucket)
      (tries next Free free) tt (slice_set flags bucket (HeldBy party)) (becomes (HeldBy party))

  pub take_at_agrees : pass_in log ≡ None → slice_get flags bucket ≡ Some Free →
      LogsAgree scene (slice_set flags bucket (HeldBy party))
      (with_entry logs party log (entry_of (TryAt party bucket) (Takes bucket)))
  take_at_agrees idle free =
      agree_on scene flags logs party log agree at (TryAt party bucket) (λ other. refl) (taking state party bucket)
      (tries_one idle Free free) tt (slice_set flags bucket (HeldBy party)) (becomes (HeldBy party))

  -- a loss, whether it is the pass's last one or not
  loss_agrees : (more : Bool) →
      pool_step state (Try party) ≡ (if more then move_of (Loses bucket) (with_pass state party (Some (bucket + 1)))
      else move_of (RefusedAtLoss bucket) (with_pass state party None)) →
      LogsAgree scene flags
      (with_entry logs party log (entry_of (Try party) (if more then Loses bucket else RefusedAtLoss bucket)))
  loss_agrees true is =
      agree_on scene flags logs party log agree at (Try party) (λ other. refl)
      (move_of (Loses bucket) (with_pass state party (Some (bucket + 1)))) is tt flags agree.leaves
  loss_agrees false is =
      agree_on scene flags logs party log agree at (Try party) (λ other. refl)
      (move_of (RefusedAtLoss bucket) (with_pass state party None)) is tt flags agree.leaves

  lost : (flag : Flag) → is_taken flag ≡ true → try_flag state party bucket (Some flag) ≡ loss state party bucket
  lost Free taken = absurd (cc)
  lost (HeldBy holder) taken = refl
  lost (DetachedBy sender) taken = refl

  missed : (flag : Flag) → is_taken flag ≡ true → try_one state party bucket (Some flag) ≡ move_of (Misses bucket) state
  missed Free taken = absurd (cc)
  missed (HeldBy holder) taken = refl
  missed (DetachedBy sender) taken = refl

  -- a taken one is lost or missed
  pub lose_agrees : next_bucket log ≡ bucket → (flag : Flag) → is_taken flag ≡ true → slice_get flags bucket ≡ Some flag →
      LogsAgree scene flags (with_entry logs party log (entry_of (Try party) (loss_at scene.geometry.buckets bucket)))
  lose_agrees next flag taken is =
      subst (λ buckets. LogsAgree scene flags (with_entry logs party log (entry_of (Try party) (loss_at buckets bucket))))
      (length-left_by scene agree.steps)
      (loss_agrees (nat_lt (bucket + 1) (length state.flags)) (tries next flag is ∙ lost flag taken))

  pub miss_agrees : pass_in log ≡ None → (flag : Flag) → is_taken flag ≡ true → slice_get flags bucket ≡ Some flag →
      LogsAgree scene flags (with_entry logs party log (entry_of (TryAt party bucket) (Misses bucket)))
  miss_agrees idle flag taken is =
      agree_on scene flags logs party log agree at (TryAt party bucket) (λ other. refl) (move_of (Misses bucket) state)
      (tries_one idle flag is ∙ missed flag taken) tt flags agree.leaves

  -- STEPS ON A DETACHED BUCKET

  pub attach_agrees : pass_in log ≡ None → IsDetachedIn flags bucket →
      LogsAgree scene (slice_set flags bucket (HeldBy party))
      (with_entry logs party log (entry_of (Attach party bucket) (Attaches bucket)))
  attach_agrees idle (sender, detached) =
      agree_on scene flags logs party log agree at (Attach party bucket) (λ other. refl) (attaching state party bucket)
      (ap (attach state party bucket) (pass_there None idle)
      ∙ ap (attach_flag state party bucket) (there (DetachedBy sender) detached))
      tt (slice_set flags bucket (HeldBy party)) (becomes (HeldBy party))

  -- an attach from the party that has detached the bucket
  pub attach_from_agrees : (from : ℕ) → pass_in log ≡ None → slice_get flags bucket ≡ Some (DetachedBy from) →
      LogsAgree scene (slice_set flags bucket (HeldBy party))
      (with_entry logs party log (entry_of (AttachFrom party bucket from) (Attaches bucket)))
  attach_from_agrees from idle detached =
      let same = ap (λ (b : Bool). if b then attaching state party bucket else move_of (Misses bucket) state)
      (test_same from from refl) in
      agree_on scene flags logs party log agree at (AttachFrom party bucket from) (λ other. refl) (attaching state party bucket)
      (ap (attach_from state party bucket from) (pass_there None idle)
      ∙ ap (attach_from_flag state party bucket from) (there (DetachedBy from) detached) ∙ same)
      tt (slice_set flags bucket (HeldBy party)) (becomes (HeldBy party))

  missed_from : (from : ℕ) (flag : Flag) → flag ≢ DetachedBy from →
      attach_from_flag state party bucket from (Some flag) ≡ move_of (Misses bucket) state
  missed_from from Free apart = refl
  missed_from from (HeldBy holder) apart = refl
  missed_from from (DetachedBy sender) apart =
      ap (λ (b : Bool). if b then attaching state party bucket else move_of (Misses bucket) state)
      (test_apart sender from (λ same. apart (ap DetachedBy same)))

  -- a miss of a bucket that the party hasn't detached
  pub miss_from_agrees : (from : ℕ) → pass_in log ≡ None → (flag : Flag) → flag ≢ DetachedBy from →
      slice_get flags bucket ≡ Some flag →
      LogsAgree scene flags (with_entry logs party log (entry_of (AttachFrom party bucket from) (Misses bucket)))
  miss_from_agrees from idle flag apart is =
      agree_on scene flags logs party log agree at (AttachFrom party bucket from) (λ other. refl) (move_of (Misses bucket) state)
      (ap (attach_from state party bucket from) (pass_there None idle)
      ∙ ap (attach_from_flag state party bucket from) (there flag is) ∙ missed_from from flag apart)
      tt flags agree.leaves

  -- a token of a bucket that the party has detached
  pub find_token_agrees : (from : ℕ) → pass_in log ≡ None → slice_get flags bucket ≡ Some (DetachedBy from) →
      LogsAgree scene flags (with_entry logs party log (entry_of (FindToken party bucket from) (Misses bucket)))
  find_token_agrees from idle detached =
      let same = ap (λ (b : Bool). if b then move_of (Misses bucket) state else passed state) (test_same from from refl) in
      agree_on scene flags logs party log agree at (FindToken party bucket from) (λ other. refl) (move_of (Misses bucket) state)
      (ap (find_token state bucket from) (pass_there None idle)
      ∙ ap (find_token_flag state bucket from) (there (DetachedBy from) detached) ∙ same)
      tt flags agree.leaves

  pub give_detached_agrees : pass_in log ≡ None → IsDetachedIn flags bucket →
      LogsAgree scene (slice_set flags bucket Free)
      (with_entry logs party log (entry_of (GiveBackDetached party bucket) (Gives bucket)))
  give_detached_agrees idle (sender, detached) =
      agree_on scene flags logs party log agree at (GiveBackDetached party bucket) (λ other. refl) (return_of state bucket)
      (ap (give_detached state bucket) (pass_there None idle)
      ∙ ap (give_detached_flag state bucket) (there (DetachedBy sender) detached))
      tt (slice_set flags bucket Free) (becomes Free)

  -- STEPS OF A HOLDER

  pub give_agrees : IsHeldAfter log bucket →
      LogsAgree scene (slice_set flags bucket Free) (with_entry logs party log (entry_of (GiveBack party bucket) (Gives bucket)))
  give_agrees holds =
      let found = there (HeldBy party) (named_from_log scene flags logs party log bucket agree at holds) in
      let same = ap (λ (b : Bool). if b then return_of state bucket else passed state) (test_same party party refl) in
      agree_on scene flags logs party log agree at (GiveBack party bucket) (λ other. refl) (return_of state bucket)
      (ap (give_flag state party bucket) found ∙ same) tt (slice_set flags bucket Free) (becomes Free)

  -- if there is another party
  pub detach_agrees : 1 < scene.parties → IsHeldAfter log bucket →
      LogsAgree scene (slice_set flags bucket (DetachedBy party))
      (with_entry logs party log (entry_of (Detach party bucket) (Detaches bucket)))
  detach_agrees others holds =
      let found = there (HeldBy party) (named_from_log scene flags logs party log bucket agree at holds) in
      let more = lt-ltb 1 (length state.calls) (omega (arith, calls-left_by scene agree.steps, others)) in
      let is = ap (detach_flag state party bucket) found
      ∙ ap (λ (b : Bool). if b then detach state party bucket else passed state) (test_same party party refl)
      ∙ ap (λ (b : Bool). if b then detaching state party bucket else passed state) more in
      agree_on scene flags logs party log agree at (Detach party bucket) (λ other. refl) (detaching state party bucket) is tt
      (slice_set flags bucket (DetachedBy party)) (becomes (DetachedBy party))

-- THE OPENING

pub opening_agrees : (scene : PoolScene) (logs : List PoolLog) → All (λ log. log ≡ []) logs →
    LogsAgree scene (replicate scene.geometry.buckets Free) logs
opening_agrees scene logs empty = record {
  steps = [];
  allowed = All-nil (λ (e : PoolEntry). IsAllowed e.outcome);
  leaves = refl;
  each = λ party log at.
      sym (empty party log (slice_get_within logs party log at)) ∙ get_or_from_slice_get logs party log log at;
}
