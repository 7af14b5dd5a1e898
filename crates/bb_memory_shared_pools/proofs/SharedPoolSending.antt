-- Taking a bucket and detaching it by one exchange keeps words and logs in agreement.
use Rattle.atomic_table.specs.Table.{Allows, Me, keeps, step}
use Rattle.bb_memory_lists.proofs.SliceGets.{slice_get-set_same}
use Rattle.bb_memory_pool_machine.proofs.PoolLogFacts.{free_not_held, log_from_named}
use Rattle.bb_memory_pool_machine.proofs.PoolLogSteps.{detach_agrees, take_at_agrees}
use Rattle.bb_memory_pool_machine.specs.PoolLogs.{HasLog, LogsAgree, PoolEntry, PoolLog, entry_of, pass_in}
use Rattle.bb_memory_pool_machine.specs.PoolMachine.{PoolScene}
use Rattle.bb_memory_pool_machine.specs.declared.steps.pool.Flag.{Flag}
use Rattle.bb_memory_pool_machine.specs.declared.steps.pool.Flag.TheVariants.{DetachedBy, Free, HeldBy}
use Rattle.bb_memory_pool_machine.specs.declared.steps.pool.PoolOutcome.TheVariants.{Takes}
use Rattle.bb_memory_pool_machine.specs.declared.steps.pool.PoolStep.TheVariants.{TryAt}
use Rattle.bb_memory_seats.specs.Seats.{alone}
use Rattle.bb_memory_shared_pools.proofs.FlagWords.{changed, exchange_leaves, exchanged, flag_named, flag_there, marked}
use Rattle.bb_memory_shared_pools.proofs.SharedPoolDetached.{free_not_detached, still_detached}
use Rattle.bb_memory_shared_pools.proofs.SharedPoolFlagSteps.{AllowedAt, either_flag, lengthened, steps_as, told, told_longer}
use Rattle.bb_memory_shared_pools.proofs.SharedPoolKeeps.{misses_at}
use Rattle.bb_memory_shared_pools.proofs.SharedPoolNumbers.{at_once}
use Rattle.bb_memory_shared_pools.proofs.SharedPoolTries.{idle_after_one, idle_after_steps}
use Rattle.bb_memory_shared_pools.specs.FlagWords.{as_word, bucket_of, flags_in, word_of}
use Rattle.bb_memory_shared_pools.specs.SharedPool.{detach_entry}
use Rattle.bb_memory_shared_pools.specs.SharedPoolNextFit.{taking_at}
use Rattle.bb_memory_shared_pools.specs.SharedPoolRule.{AfterSendAt, IsSeatOf, SeatView, WordsAndLogsAgree, at_flag, effect_of}
use Rattle.std.proofs.Common.{List, None, Some, [], append_assoc, refl, set, subst, sym, ℕ, ◌++◌, ◌<◌, ◌∷◌, ◌≡◌}
use Rattle.std.specs.Prelude.{slice_get, slice_set}
use mathlib.Core.Option.{none}

-- a taking, and a detachment
send_agrees : (scene : PoolScene) (flags : List Flag) (logs : List PoolLog) (party : ℕ) (log : PoolLog) (bucket : ℕ) →
    LogsAgree scene flags logs → party < scene.parties → HasLog logs party log → pass_in log ≡ None → 1 < scene.parties →
    slice_get flags bucket ≡ Some Free →
    LogsAgree scene (slice_set flags bucket (DetachedBy party))
    (slice_set logs party (log ++ (taking_at party bucket ++ detach_entry party bucket)))
send_agrees scene flags logs party log bucket agree made at idle others flag =
    let taking : PoolLog = taking_at party bucket in
    let held_flags : List Flag = slice_set flags bucket (HeldBy party) in
    let longer_logs : List PoolLog = slice_set logs party (log ++ taking) in
    let first = take_at_agrees scene flags logs party log bucket agree made at idle flag in
    let longer = slice_get-set_same logs party (log ++ taking) log at in
    let held = log_from_named scene held_flags longer_logs party (log ++ taking) bucket first longer
    (slice_get-set_same flags bucket (HeldBy party) Free flag) in
    at_once scene flags logs party bucket log taking (detach_entry party bucket) (HeldBy party) (DetachedBy party)
    (detach_agrees scene held_flags longer_logs party (log ++ taking) bucket first made longer others held)

-- an idle party, which isn't the only one, and the word of a bucket
module _ (scene : PoolScene) (slots seat word party bucket : ℕ) (log : PoolLog) (me : Me ℕ SeatView)
    (there : word ≡ word_of bucket) (is : me ≡ (alone scene party log, [])) (below : bucket < scene.geometry.buckets)
    (small : party < 4294967296) (others : 1 < scene.parties) (idle : pass_in log ≡ None)
  where
    abbrev own : ℕ
    own = as_word (DetachedBy party)

    abbrev taking : PoolEntry
    taking = entry_of (TryAt party bucket) (Takes bucket)

    abbrev both : PoolLog
    both = taking_at party bucket ++ detach_entry party bucket

    sends_free : AllowedAt AfterSendAt scene seat party bucket log (exchanged own) Free
    sends_free state rule at free =
        let mine = rule.seated.known seat (alone scene party log) at in
        let flags : List Flag = flags_in rule.marks in
        let marks : List Flag = slice_set rule.marks bucket (DetachedBy party) in
        let flag = flag_there rule.marks bucket Free free in
        let first = take_at_agrees scene flags rule.logs party log bucket rule.agree mine.0 mine.1 idle flag in
        let agree = marked scene rule.marks (slice_set rule.logs party (log ++ both)) bucket (DetachedBy party)
        (DetachedBy party) (flag_named party small)
        (send_agrees scene flags rule.logs party log bucket rule.agree mine.0 mine.1 idle others flag) in
        let whole = told_longer scene (flags_in marks) rule.logs party log (log ++ both) mine.1 agree in
        let split = sym (append_assoc log (taking_at party bucket) (detach_entry party bucket)) in (
          alone scene party (log ++ both),
          keeps,
          tt,
          lengthened scene state rule seat party log (log ++ both) (set state.words (word_of bucket) own) marks at agree
              (changed state.words rule.marks bucket (DetachedBy party) rule.words)
              (λ b. still_detached rule.marks bucket b (DetachedBy party) (free_not_detached rule.marks bucket free)),
          (
            λ _. record {
              between = (alone scene party (log ++ taking ∷ []), []);
              taken = record {
                ended = record {
                  seat = told scene (slice_set flags bucket (HeldBy party)) rule.logs party log taking mine.1 first;
                  idle = idle_after_one log taking idle refl;
                };
                free = free_not_held scene flags rule.logs party log bucket rule.agree mine.1 flag;
              };
              ended = record {
                seat = subst (λ (l : PoolLog). IsSeatOf scene party l (alone scene party (log ++ both), [])) split whole;
                idle = subst (λ (l : PoolLog). pass_in l ≡ None) split (idle_after_steps log both idle refl);
              };
            },
            λ not_free. absurd (not_free refl),
          ),
        )

    sends : Allows (WordsAndLogsAgree scene) slots seat me word (exchanged own) (effect_of AfterSendAt me (bucket_of word))
    sends = steps_as (exchanged own) AfterSendAt scene slots seat word party bucket log me there is below
        (either_flag AfterSendAt scene seat party bucket log (exchanged own) sends_free
        (misses_at AfterSendAt scene seat party bucket log (exchanged own) idle (exchange_leaves own)
        (λ found new some missed. (λ zero_found. absurd (some zero_found), λ _. missed))))

    -- the exchange takes and detaches the bucket exactly if it finds the bucket free
    pub sends_as : (named : ℕ) → named ≡ own →
        Allows (WordsAndLogsAgree scene) slots seat me word (exchanged named) (at_flag AfterSendAt (step slots word 0 named none) me)
    sends_as named is_own = subst (λ (w : ℕ). Allows (WordsAndLogsAgree scene) slots seat me word (exchanged w)
        (effect_of AfterSendAt me (bucket_of word))) (sym is_own) sends
