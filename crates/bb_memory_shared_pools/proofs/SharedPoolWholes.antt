-- All parties of a pool, when they have met.
use Rattle.bb_memory_lists.proofs.ListEntries.{any_contained, contains-first, contains_at, stands_in_log}
use Rattle.bb_memory_pool_machine.proofs.PoolDetached.{in_history, sender_detached, was_detached_before}
use Rattle.bb_memory_pool_machine.proofs.PoolFlags.{flag_from_taken, taken_from_flag}
use Rattle.bb_memory_pool_machine.proofs.PoolHolders.{detached_unheld}
use Rattle.bb_memory_pool_machine.proofs.PoolLogFacts.{logs_apart, nobody_else, some_step_takes}
use Rattle.bb_memory_pool_machine.proofs.PoolRuns.{taken_is_held}
use Rattle.bb_memory_pool_machine.proofs.PoolSteps.{test_same}
use Rattle.bb_memory_pool_machine.specs.PoolLogs.{HasLog, HasStepped, IsHeldAfter, IsPoolRun, PoolEntry, PoolLog, WasAttachedFrom, WasDetached, entry_of, history_of, is_by, is_taken, log_of, loss_at, party_of}
use Rattle.bb_memory_pool_machine.specs.PoolMachine.{IsDetached, PoolScene, left_by}
use Rattle.bb_memory_pool_machine.specs.declared.steps.pool.Flag.{Flag}
use Rattle.bb_memory_pool_machine.specs.declared.steps.pool.PoolOutcome.{PoolOutcome}
use Rattle.bb_memory_pool_machine.specs.declared.steps.pool.PoolOutcome.TheVariants.{Detaches, Loses, RefusedAtLoss, Takes}
use Rattle.bb_memory_pool_machine.specs.declared.steps.pool.PoolStep.{PoolStep}
use Rattle.bb_memory_pool_machine.specs.declared.steps.pool.PoolStep.TheVariants.{Try}
use Rattle.bb_memory_shared_pools.specs.SharedPool.{IsSharedScene, PoolParty, losses, refused_pass}
use Rattle.bb_memory_shared_pools.specs.SharedPoolMeetings.{HasTaker, HaveMet, IsHeldByOne, IsHeldOrDetached, IsTaking, TookOne, WasDetachedByOne}
use Rattle.bb_memory_traits.specs.Chunk.{Chunk}
use Rattle.bb_memory_traits.specs.PoolObject.{IsHeld}
use Rattle.bb_memory_traits.specs.declared.layout.Layout.{Layout}
use Rattle.std.proofs.Common.{List, Some, [], ap, arith, length, refl, subst, suc, sym, true, zero, ℕ, ◌+◌, ◌<◌, ◌∙◌, ◌∷◌, ◌≡◌, ◌≢◌, ◌≤◌}
use Rattle.std.proofs.lemmas.List.Elements.{All-append, All-cons, All-contains, All-contains_itself, All-nil, All-weaker}
use Rattle.std.proofs.lemmas.Option.{slice_get_within}
use Rattle.std.specs.List.{All}
use Rattle.std.specs.Prelude.{Any, Bool, Contains, false, if◌then◌else◌, map, nat_lt, slice_get, ◌↔◌}

module _ (scene : PoolScene) (parties : List PoolParty) (met : HaveMet scene parties) where
  abbrev steps : List PoolStep
  steps = met.1.agree.steps

  abbrev history : PoolLog
  history = history_of scene steps

  -- the flags that the meeting found are the buckets held in the list that the run leaves
  pub met_flags : (layouts : List Layout) (live : List Chunk) (bucket : ℕ) → IsSharedScene scene →
      IsPoolRun scene steps layouts live → bucket < scene.geometry.buckets →
      (slice_get met.0 bucket ≡ Some true) ↔ IsHeld scene.geometry live bucket
  met_flags layouts live bucket shared run below =
      let same = taken_is_held scene steps layouts live bucket shared.geometry run below in
      let state = left_by scene steps in
      let leaves = ap (λ (flags : List Flag). map is_taken flags) met.1.agree.leaves ∙ met.1.taken in (
        λ (flag : slice_get met.0 bucket ≡ Some true). same.0 (taken_from_flag state met.0 bucket leaves flag),
        λ held. flag_from_taken state met.0 bucket leaves (same.1 held),
      )

  pub met_held : (layouts : List Layout) (live : List Chunk) (bucket : ℕ) → IsSharedScene scene →
      length parties ≡ scene.parties → IsPoolRun scene steps layouts live → bucket < scene.geometry.buckets →
      IsHeld scene.geometry live bucket ↔ IsHeldOrDetached scene steps parties bucket
  met_held layouts live bucket shared all run below =
      let flags = met_flags layouts live bucket shared run below in
      let whole = (met.1.whole all).1 bucket in
      (λ held. whole.0 (flags.1 held), λ out. flags.0 (whole.1 out))

  pub met_logged : All (λ party. log_of scene steps party.number ≡ party.log) parties
  met_logged k d below = met.1.agree.each _ _ (met.1.theirs k d below)

  -- no bucket is held by two of them
  pub met_apart : (i j : ℕ) (one other : PoolParty) (bucket : ℕ) → slice_get parties i ≡ Some one →
      slice_get parties j ≡ Some other → i ≢ j → IsHeldAfter one.log bucket → ¬ IsHeldAfter other.log bucket
  met_apart i j one other bucket at at_other apart held other_held =
      let HasIts : PoolParty → Type 0 = λ party. HasLog met.1.logs party.number party.log in
      let its = All-contains HasIts parties one met.1.theirs (contains_at parties i one at) in
      let its_other = All-contains HasIts parties other met.1.theirs (contains_at parties j other at_other) in
      met.1.differ i j one other at at_other apart
      (logs_apart scene met.1.named met.1.logs one.number one.log other.number other.log bucket met.1.agree its its_other held
      other_held)

  -- an entry whose step is that of a number is in the log of the party with this number
  numbered : (entry : PoolEntry) (number : ℕ) → length parties ≡ scene.parties → Contains history entry →
      is_by number entry.step ≡ true → Any (λ party. Contains party.log entry) parties
  numbered entry number all there by =
      stands_in_log (λ (party : PoolParty). party.number) (λ party. party.log) (λ n other. is_by n other.step)
      history scene.parties
      parties (met.1.whole all).0 met_logged (λ n past. nobody_else scene steps n past met.1.agree.allowed) entry number there by

  owned : (step : PoolStep) (outcome : PoolOutcome) → length parties ≡ scene.parties →
      Contains history (entry_of step outcome) → Any (λ party. Contains party.log (entry_of step outcome)) parties
  owned step outcome all there =
      numbered (entry_of step outcome) (party_of step) all there (test_same (party_of step) (party_of step) refl)

  -- each step is in the log of one that met
  pub met_nobody_else : length parties ≡ scene.parties → All (λ entry. Any (λ party. Contains party.log entry) parties) history
  met_nobody_else all = All-weaker (Contains history) (λ entry. Any (λ party. Contains party.log entry) parties)
      (λ entry there. owned entry.step entry.outcome all there) history (All-contains_itself history)

  -- DETACHED BUCKETS

  -- none of them holds a detached bucket
  pub met_detached : (bucket : ℕ) → IsDetached (left_by scene steps) bucket → ¬ IsHeldByOne parties bucket
  met_detached bucket detached one =
      let logged = All-contains (λ (party : PoolParty). log_of scene steps party.number ≡ party.log) parties one.1
      met_logged (one.0, one.2, one.3) in
      detached_unheld scene steps one.1.number bucket detached
      (subst (λ (l : PoolLog). IsHeldAfter l bucket) (sym logged) one.4)

  -- if all parties met, one of them has detached it
  pub met_was_detached : (bucket : ℕ) → length parties ≡ scene.parties → IsDetached (left_by scene steps) bucket →
      WasDetachedByOne parties bucket
  met_was_detached bucket all detached =
      let step = was_detached_before scene steps bucket detached in
      let one = owned step.1.step step.1.outcome all (step.0, step.2, step.3) in (
        one.0,
        one.1,
        one.2,
        one.3,
        any_contained (λ (entry : PoolEntry). entry.outcome ≡ Detaches bucket) one.1.log step.1
            one.4 step.4,
      )

  log_there : (party : PoolParty) → Contains parties party → log_of scene steps party.number ≡ party.log
  log_there party = All-contains (λ (p : PoolParty). log_of scene steps p.number ≡ p.log) parties party met_logged

  -- one of them attached a bucket from another one only if the other one detached it
  pub met_sent : (receiver sender : PoolParty) (bucket : ℕ) → Contains parties receiver → Contains parties sender →
      WasAttachedFrom receiver.log bucket sender.number → WasDetached sender.log bucket
  met_sent receiver sender bucket there sender_there attached =
      subst (λ (l : PoolLog). WasDetached l bucket) (log_there sender sender_there)
      (sender_detached scene steps receiver.number bucket sender.number
      (subst (λ (l : PoolLog). WasAttachedFrom l bucket sender.number) (sym (log_there receiver there)) attached))

-- WHO TOOK A BUCKET

-- a party that has this entry, which took a bucket, has taken one
took_by_entry : (scene : PoolScene) (parties : List PoolParty) (met : HaveMet scene parties) (entry : PoolEntry) →
    IsTaking entry.outcome → Any (λ party. Contains party.log entry) parties → HasTaker scene parties
took_by_entry scene parties met entry takes one =
    let there : Contains parties one.1 = (one.0, one.2, one.3) in
    let log = All-contains (λ (party : PoolParty). HasLog met.1.logs party.number party.log) parties one.1 met.1.theirs there in
    let within = slice_get_within met.1.logs one.1.number one.1.log log in
    record {
      taker = one.1;
      number = omega (arith, within, met.1.one_a_party);
      there = there;
      took = any_contained (λ (other : PoolEntry). IsTaking other.outcome) one.1.log entry one.4 takes;
    }

-- if one has made a step that isn't a lost attach, one has taken a bucket
pub one_took : (scene : PoolScene) (parties : List PoolParty) (one : PoolParty) → HaveMet scene parties →
    length parties ≡ scene.parties → Contains parties one → HasStepped one.log → HasTaker scene parties
one_took scene parties one met all there (place, entry, within, same, stepped) =
    let steps = met.1.agree.steps in
    let logged = subst (λ (l : PoolLog). Contains l entry) (sym (log_there scene parties met one there)) (place, within, same) in
    let takes = some_step_takes scene steps entry met.1.agree.allowed
    (in_history one.number (history_of scene steps) entry logged) stepped in
    took_by_entry scene parties met (entry_of takes.step (Takes takes.bucket)) tt
    (owned scene parties met takes.step (Takes takes.bucket) all takes.there)

some_party : (parties : List PoolParty) → 1 ≤ length parties → (party : PoolParty) × Contains parties party
some_party [] some = absurd (omega arith)
some_party (party ∷ parties) some = (party, contains-first party party parties refl)

pub one_served : (scene : PoolScene) (parties : List PoolParty) → IsSharedScene scene → HaveMet scene parties →
    length parties ≡ scene.parties → All (λ party. HasStepped party.log) parties → HasTaker scene parties
one_served scene parties shared met all made =
    let some = shared.parties in
    let one = some_party parties (omega (arith, some, all)) in
    one_took scene parties one.0 met all one.1
    (All-contains (λ (party : PoolParty). HasStepped party.log) parties one.0 made one.1)

-- REFUSED PASSES

loss_takes_none : (bucket : ℕ) (more : Bool) → ¬ IsTaking (if more then Loses bucket else RefusedAtLoss bucket)
loss_takes_none bucket true takes = absurd takes
loss_takes_none bucket false takes = absurd takes

losses_take_none : (buckets number count : ℕ) → All (λ entry. ¬ IsTaking entry.outcome) (losses buckets number count)
losses_take_none buckets number zero = All-nil (λ (entry : PoolEntry). ¬ IsTaking entry.outcome)
losses_take_none buckets number (suc bucket) =
    let TakesNone : PoolEntry → Type 0 = λ entry. ¬ IsTaking entry.outcome in
    let entry = entry_of (Try number) (loss_at buckets bucket) in
    All-append TakesNone (losses buckets number bucket) (entry ∷ []) (losses_take_none buckets number bucket)
    (All-cons TakesNone entry [] (loss_takes_none bucket (nat_lt (bucket + 1) buckets)) (All-nil TakesNone))

pub refused_took_none : (buckets number : ℕ) → ¬ TookOne (refused_pass buckets number)
refused_took_none buckets number one =
    All-contains (λ (entry : PoolEntry). ¬ IsTaking entry.outcome) (refused_pass buckets number) one.1
    (losses_take_none buckets number buckets) (one.0, one.2, one.3) one.4
