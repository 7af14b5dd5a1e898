-- Detaching a bucket without a token, attaching it by its number and giving it back by its number keep words and logs in
-- agreement.
use Rattle.atomic_table.specs.Table.{Allows, Me, keeps, step}
use Rattle.bb_memory_lists.proofs.SliceGets.{slice_get-set_same}
use Rattle.bb_memory_pool_machine.proofs.PoolLogFacts.{detached_not_held, log_from_named}
use Rattle.bb_memory_pool_machine.proofs.PoolLogSteps.{attach_from_agrees, detach_agrees, find_token_agrees, give_agrees, miss_from_agrees}
use Rattle.bb_memory_pool_machine.specs.PoolLogs.{HasLog, IsHeldAfter, LogsAgree, PoolEntry, PoolLog, entry_of, pass_after, pass_in, with_entry}
use Rattle.bb_memory_pool_machine.specs.PoolMachine.{PoolScene}
use Rattle.bb_memory_pool_machine.specs.declared.steps.pool.Flag.{Flag}
use Rattle.bb_memory_pool_machine.specs.declared.steps.pool.Flag.TheVariants.{DetachedBy, Free, HeldBy}
use Rattle.bb_memory_pool_machine.specs.declared.steps.pool.PoolOutcome.TheVariants.{Detaches, Misses}
use Rattle.bb_memory_pool_machine.specs.declared.steps.pool.PoolStep.TheVariants.{AttachFrom, Detach, FindToken}
use Rattle.bb_memory_seats.specs.Seats.{alone, number_of, view_log}
use Rattle.bb_memory_shared_pools.proofs.FlagWords.{changed, flag_named, flag_there, made_again, marked, no_token, same_word}
use Rattle.bb_memory_shared_pools.proofs.SharedPoolDetached.{still_detached}
use Rattle.bb_memory_shared_pools.proofs.SharedPoolDetaching.{held_no_token, stores_as}
use Rattle.bb_memory_shared_pools.proofs.SharedPoolFlagSteps.{AllowedAt, entered, lengthened, steps_as, told, told_longer}
use Rattle.bb_memory_shared_pools.proofs.SharedPoolTries.{idle_after_one, idle_after_steps}
use Rattle.bb_memory_shared_pools.specs.FlagWords.{as_word, bucket_of, flag_in, flags_in, sender_in, word_of}
use Rattle.bb_memory_shared_pools.specs.SharedPool.{IsMissFrom, attach_from_entry, return_entry, return_from_entries}
use Rattle.bb_memory_shared_pools.specs.SharedPoolRule.{AfterDetachSplit, AfterNumber, SeatView, WordsAndLogsAgree, attaches_number, detaches_number, effect_of, returns_number}
use Rattle.std.proofs.Common.{List, None, Some, [], ap, append_assoc, arith, eq-eqb, eqb, inl, inr, ne_eqb, refl, set, subst, suc, sym, zero, ℕ, ◌++◌, ◌<◌, ◌∙◌, ◌∷◌, ◌≡◌, ◌≢◌}
use Rattle.std.proofs.lemmas.Bool.{cases_eq}
use Rattle.std.specs.Prelude.{slice_get, slice_set, ◌⊎◌}
use mathlib.Core.Option.{none}
use prog.Atomic.{either}

-- DETACHING

detaches_number_one : (scene : PoolScene) (slots seat party bucket : ℕ) (log : PoolLog) → party < 4294967296 →
    1 < scene.parties → IsHeldAfter log bucket →
    Allows (WordsAndLogsAgree scene) slots seat (alone scene party log, []) (word_of bucket) (λ _. as_word (DetachedBy party))
    (λ _. AfterDetachSplit scene party log bucket)
detaches_number_one scene slots seat party bucket log small others held state rule homes at fits =
    let mine = rule.seated.known seat (alone scene party log) at in
    let entry : PoolEntry = entry_of (Detach party bucket) (Detaches bucket) in
    let marks : List Flag = slice_set rule.marks bucket (DetachedBy party) in
    let agree = marked scene rule.marks (with_entry rule.logs party log entry) bucket (DetachedBy party) (DetachedBy party)
    (flag_named party small)
    (detach_agrees scene (flags_in rule.marks) rule.logs party log bucket rule.agree mine.0 mine.1 others held) in (
      alone scene party (log ++ entry ∷ []),
      keeps,
      tt,
      entered scene state rule seat party log entry (set state.words (word_of bucket) (as_word (DetachedBy party))) marks at
          agree
          (changed state.words rule.marks bucket (DetachedBy party) rule.words)
          (λ b. still_detached rule.marks bucket b (DetachedBy party)
          (held_no_token scene rule.marks rule.logs party log bucket rule.agree mine.1 held)),
      told scene (flags_in marks) rule.logs party log entry mine.1 agree,
    )

-- a seat of one party, which isn't the only one, may detach a bucket that is held after its log, and make no token
pub detaches_number_as : (scene : PoolScene) (slots seat word party bucket new : ℕ) (log : PoolLog) (me : Me ℕ SeatView) →
    word ≡ word_of bucket → me ≡ (alone scene party log, []) → new ≡ as_word (DetachedBy party) → party < 4294967296 →
    1 < scene.parties → IsHeldAfter log bucket →
    Allows (WordsAndLogsAgree scene) slots seat me word (λ _. new) (λ _. detaches_number (step slots word new 0 none) me new)
detaches_number_as scene slots seat word party bucket new log me there is named small others held =
    stores_as scene slots seat word bucket (as_word (DetachedBy party)) new (alone scene party log, []) me
    (λ m b. AfterDetachSplit m.0.scene (number_of m.0) (view_log m.0) b) there is named
    (detaches_number_one scene slots seat party bucket log small others held)

-- TWO STEPS AT ONCE

set_again : {X : Type 0} (xs : List X) (i : ℕ) (one other : X) → slice_set (slice_set xs i one) i other ≡ slice_set xs i other
set_again [] i one other = refl
set_again (x ∷ xs) zero one other = refl
set_again (x ∷ xs) (suc i) one other = ap (λ (rest : List _). x ∷ rest) (set_again xs i one other)

-- flags and logs after two steps of a party at a bucket
pub at_once : (scene : PoolScene) (flags : List Flag) (logs : List PoolLog) (party bucket : ℕ) (log one other : PoolLog)
    (between next : Flag) →
    LogsAgree scene (slice_set (slice_set flags bucket between) bucket next)
    (slice_set (slice_set logs party (log ++ one)) party (log ++ one ++ other)) →
    LogsAgree scene (slice_set flags bucket next) (slice_set logs party (log ++ (one ++ other)))
at_once scene flags logs party bucket log one other between next agree =
    let set_once = subst (λ (all : List Flag). LogsAgree scene all
    (slice_set (slice_set logs party (log ++ one)) party (log ++ one ++ other)))
    (set_again flags bucket between next) agree in
    let longer_once = subst (LogsAgree scene (slice_set flags bucket next))
    (set_again logs party (log ++ one) (log ++ one ++ other)) set_once in
    subst (λ (longer : PoolLog). LogsAgree scene (slice_set flags bucket next) (slice_set logs party longer))
    (append_assoc log one other) longer_once

-- an attach from the party that has detached the bucket, and a return
return_from_agrees : (scene : PoolScene) (flags : List Flag) (logs : List PoolLog) (party : ℕ) (log : PoolLog) (bucket from : ℕ) →
    LogsAgree scene flags logs → party < scene.parties → HasLog logs party log → pass_in log ≡ None →
    slice_get flags bucket ≡ Some (DetachedBy from) →
    LogsAgree scene (slice_set flags bucket Free) (slice_set logs party (log ++ return_from_entries party bucket from))
return_from_agrees scene flags logs party log bucket from agree made at idle flag =
    let attached : PoolLog = attach_from_entry party bucket from in
    let held_flags : List Flag = slice_set flags bucket (HeldBy party) in
    let longer_logs : List PoolLog = slice_set logs party (log ++ attached) in
    let first = attach_from_agrees scene flags logs party log bucket agree made at from idle flag in
    let longer = slice_get-set_same logs party (log ++ attached) log at in
    let held = log_from_named scene held_flags longer_logs party (log ++ attached) bucket first longer
    (slice_get-set_same flags bucket (HeldBy party) (DetachedBy from) flag) in
    at_once scene flags logs party bucket log attached (return_entry party bucket) (HeldBy party) Free
    (give_agrees scene held_flags longer_logs party (log ++ attached) bucket first made longer held)

-- ATTACHING, AND GIVING BACK

-- an exchange of a word for another
abbrev swapped : ℕ → ℕ → ℕ → ℕ
swapped old new found = either (eqb found old) new found

-- An exchange of an idle party, at the flag of a bucket that `from` may have detached. If it wins, the flag becomes `next`, and
-- the party's log has the entries of `won`.
module _ (scene : PoolScene) (slots seat word party bucket from : ℕ) (log : PoolLog) (me : Me ℕ SeatView)
    (there : word ≡ word_of bucket) (is : me ≡ (alone scene party log, [])) (below : bucket < scene.geometry.buckets)
    (small : from < 4294967296) (idle : pass_in log ≡ None) (next : Flag) (plain : flag_in next ≡ next)
    (won : ℕ → ℕ → ℕ → PoolLog) (still_idle : pass_in (won party bucket from) ≡ None)
    (agrees : (flags : List Flag) (logs : List PoolLog) → LogsAgree scene flags logs → party < scene.parties →
    HasLog logs party log → slice_get flags bucket ≡ Some (DetachedBy from) →
    LogsAgree scene (slice_set flags bucket next) (slice_set logs party (log ++ won party bucket from)))
  where
    abbrev sent : ℕ
    sent = as_word (DetachedBy from)

    abbrev own : ℕ
    own = as_word next

    wins : AllowedAt (AfterNumber won from) scene seat party bucket log (swapped sent own) (DetachedBy from)
    wins state rule at named =
        let mine = rule.seated.known seat (alone scene party log) at in
        let longer : PoolLog = log ++ won party bucket from in
        let flags : List Flag = flags_in rule.marks in
        let marks : List Flag = slice_set rule.marks bucket next in
        let flag : slice_get flags bucket ≡ Some (DetachedBy from) =
        flag_there rule.marks bucket (DetachedBy from) named ∙ ap Some (flag_named from small) in
        let agree = marked scene rule.marks (slice_set rule.logs party longer) bucket next next plain
        (agrees flags rule.logs rule.agree mine.0 mine.1 flag) in
        let exchanged_it = ap (λ b. either b own sent) (eq-eqb sent sent refl) in (
          alone scene party longer,
          keeps,
          tt,
          lengthened scene state rule seat party log longer (set state.words (word_of bucket) (swapped sent own sent)) marks at
              agree
              (ap (λ (w : ℕ). set state.words (word_of bucket) w) exchanged_it
              ∙ changed state.words rule.marks bucket next rule.words)
              (λ b. still_detached rule.marks bucket b next (no_token rule.marks bucket from small named)),
          (
            λ same. record {
              ended = record {
                seat = told_longer scene (flags_in marks) rule.logs party log longer mine.1 agree;
                idle = idle_after_steps log (won party bucket from) idle still_idle;
              };
              free = detached_not_held scene flags rule.logs party log bucket rule.agree mine.1 (from, flag);
            },
            λ apart. absurd (apart refl),
          ),
        )

    -- a miss, with the step that the machine allows at this mark
    misses_with : (mark : Flag) (entry : PoolEntry) → as_word mark ≢ sent → pass_after None entry.outcome ≡ None →
        IsMissFrom party bucket from (entry ∷ []) →
        ((flags : List Flag) (logs : List PoolLog) → LogsAgree scene flags logs → party < scene.parties → HasLog logs party log →
        slice_get flags bucket ≡ Some (flag_in mark) → LogsAgree scene flags (with_entry logs party log entry)) →
        AllowedAt (AfterNumber won from) scene seat party bucket log (swapped sent own) mark
    misses_with mark entry apart still miss agrees state rule at named =
        let mine = rule.seated.known seat (alone scene party log) at in
        let flags : List Flag = flags_in rule.marks in
        let agree = agrees flags rule.logs rule.agree mine.0 mine.1 (flag_there rule.marks bucket mark named) in
        let lost = ap (λ b. either b own (as_word mark)) (ne_eqb (as_word mark) sent apart) in (
          alone scene party (log ++ entry ∷ []),
          keeps,
          tt,
          entered scene state rule seat party log entry (set state.words (word_of bucket) (swapped sent own (as_word mark)))
              rule.marks at agree
              (ap (λ (w : ℕ). set state.words (word_of bucket) w) lost
              ∙ made_again state.words rule.marks bucket mark rule.words named)
              (λ b token. token),
          (
            λ same. absurd (apart same),
            λ _. record {
              step = entry ∷ [];
              miss = miss;
              ended = record {
                seat = told scene flags rule.logs party log entry mine.1 agree;
                idle = idle_after_one log entry idle still;
              };
            },
          ),
        )

    -- the flag may be that of a bucket that `from` has detached: then the mark has a token
    loses_at : (mark flag : Flag) → flag_in mark ≡ flag → as_word mark ≢ sent → (flag ≡ DetachedBy from) ⊎ (flag ≢ DetachedBy from) →
        AllowedAt (AfterNumber won from) scene seat party bucket log (swapped sent own) mark
    loses_at mark flag is apart (inl same) =
        misses_with mark (entry_of (FindToken party bucket from) (Misses bucket)) apart refl (inr refl)
        (λ flags logs agree made at there.
        find_token_agrees scene flags logs party log bucket agree made at from idle (there ∙ ap Some (is ∙ same)))
    loses_at mark flag is apart (inr another) =
        misses_with mark (entry_of (AttachFrom party bucket from) (Misses bucket)) apart refl (inl refl)
        (λ flags logs agree made at there.
        miss_from_agrees scene flags logs party log bucket agree made at from idle flag another (there ∙ ap Some is))

    sent_or_not : (flag : Flag) → (flag ≡ DetachedBy from) ⊎ (flag ≢ DetachedBy from)
    sent_or_not Free = inr (λ same. absurd (cc))
    sent_or_not (HeldBy holder) = inr (λ same. absurd (cc))
    sent_or_not (DetachedBy sender) = elim (cases_eq sender from) [
      | inl same ↦ inl (ap DetachedBy same)
      | inr apart ↦ inr (λ same. let is : sender ≡ from = cc in apart is)
    ]

    loses : (mark : Flag) → as_word mark ≢ sent → AllowedAt (AfterNumber won from) scene seat party bucket log (swapped sent own) mark
    loses mark apart = loses_at mark (flag_in mark) refl apart (sent_or_not (flag_in mark))

    either_mark : (mark : Flag) → AllowedAt (AfterNumber won from) scene seat party bucket log (swapped sent own) mark
    either_mark mark = elim (cases_eq (as_word mark) sent) [
      | inl same ↦
          subst (AllowedAt (AfterNumber won from) scene seat party bucket log (swapped sent own))
          (sym (same_word mark (DetachedBy from) same)) wins
      | inr apart ↦ loses mark apart
    ]

    -- the exchange wins exactly if it finds that `from` has detached the bucket without a token
    exchanges_number_as : (old new : ℕ) → old ≡ sent → new ≡ own →
        Allows (WordsAndLogsAgree scene) slots seat me word (swapped old new)
        (effect_of (AfterNumber won (sender_in old)) me (bucket_of word))
    exchanges_number_as old new named becomes =
        let allowed = steps_as (swapped sent own) (AfterNumber won from) scene slots seat word party bucket log me there is below
        either_mark in
        let sender : from ≡ sender_in sent = omega arith in
        let told_so = subst (λ (n : ℕ). Allows (WordsAndLogsAgree scene) slots seat me word (swapped sent own)
        (effect_of (AfterNumber won n) me (bucket_of word))) sender allowed in
        subst (λ (w : ℕ). Allows (WordsAndLogsAgree scene) slots seat me word (swapped w new)
        (effect_of (AfterNumber won (sender_in w)) me (bucket_of word))) (sym named)
        (subst (λ (w : ℕ). Allows (WordsAndLogsAgree scene) slots seat me word (swapped sent w)
        (effect_of (AfterNumber won (sender_in sent)) me (bucket_of word))) (sym becomes) told_so)

-- An idle party at the flag of a bucket that `from` may have detached.
module _ (scene : PoolScene) (slots seat word party bucket from : ℕ) (log : PoolLog) (me : Me ℕ SeatView)
    (there : word ≡ word_of bucket) (is : me ≡ (alone scene party log, [])) (below : bucket < scene.geometry.buckets)
    (small : from < 4294967296) (idle : pass_in log ≡ None) (old new : ℕ) (named : old ≡ as_word (DetachedBy from))
  where
    -- the exchange attaches the bucket exactly if it finds that `from` has detached the bucket without a token
    pub attaches_number_as : new ≡ as_word (HeldBy party) →
        Allows (WordsAndLogsAgree scene) slots seat me word (swapped old new)
        (attaches_number (step slots word old new none) me)
    attaches_number_as becomes =
        exchanges_number_as scene slots seat word party bucket from log me there is below small idle (HeldBy party) refl
        attach_from_entry refl (λ flags logs agree made at flag.
        attach_from_agrees scene flags logs party log bucket agree made at from idle flag) old new named becomes

    -- the exchange frees the bucket exactly if it finds that `from` has detached the bucket without a token
    pub returns_number_as : new ≡ 0 →
        Allows (WordsAndLogsAgree scene) slots seat me word (swapped old new)
        (returns_number (step slots word old new none) me)
    returns_number_as becomes =
        exchanges_number_as scene slots seat word party bucket from log me there is below small idle Free refl
        return_from_entries refl (λ flags logs agree made at flag.
        return_from_agrees scene flags logs party log bucket from agree made at idle flag) old new named becomes
