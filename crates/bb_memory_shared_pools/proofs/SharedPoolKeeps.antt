-- Exchanges, loads and stores at flags keep words and logs in agreement.
use Rattle.atomic_table.specs.Table.{Allows, Enters, Me, keeps, step}
use Rattle.bb_memory_pool_machine.proofs.PoolLogFacts.{held_not_detached, interleaved_log, log_from_named, may_be_found, named_from_log}
use Rattle.bb_memory_pool_machine.proofs.PoolLogSteps.{give_agrees, lose_agrees, miss_agrees, take_agrees, take_at_agrees}
use Rattle.bb_memory_pool_machine.specs.PoolLogs.{IsHeldAfter, MayBeFound, PoolEntry, PoolLog, entry_of, is_taken, loss_at, next_bucket, pass_in, with_entry}
use Rattle.bb_memory_pool_machine.specs.PoolMachine.{PoolScene}
use Rattle.bb_memory_pool_machine.specs.declared.steps.pool.Flag.{Flag}
use Rattle.bb_memory_pool_machine.specs.declared.steps.pool.Flag.TheVariants.{Free, HeldBy}
use Rattle.bb_memory_pool_machine.specs.declared.steps.pool.PoolOutcome.TheVariants.{Gives, Misses, Takes}
use Rattle.bb_memory_pool_machine.specs.declared.steps.pool.PoolStep.TheVariants.{GiveBack, Try, TryAt}
use Rattle.bb_memory_seats.proofs.Seatings.{seated_entered}
use Rattle.bb_memory_seats.specs.Seats.{alone, number_of, standing_for, view_log}
use Rattle.bb_memory_shared_pools.proofs.FlagWords.{at_word, changed, exchange_leaves, exchanged, flag_there, found_in, held_mark, marked, taken_word, token_detached, word_names}
use Rattle.bb_memory_shared_pools.proofs.SharedPoolDetached.{detached_entered, still_detached}
use Rattle.bb_memory_shared_pools.proofs.SharedPoolFlagSteps.{AllowedAt, either_flag, entered, loses_taken, mark_at, stays, steps_as, takes_free, told}
use Rattle.bb_memory_shared_pools.proofs.SharedPoolTries.{idle_after_one}
use Rattle.bb_memory_shared_pools.specs.FlagWords.{as_word, bucket_of, flag_in, flags_in, word_of}
use Rattle.bb_memory_shared_pools.specs.SharedPoolRule.{AfterHolderLoad, AfterLook, AfterMiss, AfterReturn, AfterTry, AfterTryAt, SeatView, StepEffect, WordsAndLogsAgree, all_parties, at_flag, effect_of, finds, returns}
use Rattle.std.proofs.Common.{List, None, Some, [], ap, arith, get_or, refl, set, subst, sym, true, ℕ, ◌++◌, ◌<◌, ◌∙◌, ◌∷◌, ◌≡◌, ◌≢◌}
use Rattle.std.proofs.lemmas.Option.{same_Some}
use Rattle.std.specs.Prelude.{slice_set}
use mathlib.Core.Option.{none}

-- EXCHANGES AND LOADS

-- an idle party misses a taken bucket, by an exchange or by a load
pub misses_at : (tells : StepEffect) (scene : PoolScene) (seat party bucket : ℕ) (log : PoolLog) (becomes : ℕ → ℕ) →
    pass_in log ≡ None → ((mark : Flag) → is_taken mark ≡ true → becomes (as_word mark) ≡ as_word mark) →
    ((found : ℕ) (new : Me ℕ SeatView) → found ≢ 0 → AfterMiss scene party log bucket new →
    tells scene party log bucket found new) →
    (mark : Flag) → is_taken mark ≡ true → AllowedAt tells scene seat party bucket log becomes mark
misses_at tells scene seat party bucket log becomes idle leaves told_miss mark taken =
    let miss : PoolEntry = entry_of (TryAt party bucket) (Misses bucket) in
    loses_taken tells scene seat party bucket log becomes mark taken (leaves mark taken) miss
    (λ flags logs agree made at taken there.
    miss_agrees scene flags logs party log bucket agree made at idle (flag_in mark) taken there)
    (λ new held. told_miss (as_word mark) (alone scene party (log ++ miss ∷ []), []) (taken_word mark taken)
    record { ended = record { seat = new; idle = idle_after_one log miss idle refl }; held = held })

-- a seat of one party, and the word of a bucket
module _ (scene : PoolScene) (slots seat word party bucket : ℕ) (log : PoolLog) (me : Me ℕ SeatView)
    (there : word ≡ word_of bucket) (is : me ≡ (alone scene party log, [])) (below : bucket < scene.geometry.buckets)
  where
    -- the party may try the bucket that is next
    tries : next_bucket log ≡ bucket → Allows (WordsAndLogsAgree scene) slots seat me word (exchanged (as_word (HeldBy party)))
        (effect_of AfterTry me (bucket_of word))
    tries next =
        let own : ℕ = as_word (HeldBy party) in
        let loss : PoolEntry = entry_of (Try party) (loss_at scene.geometry.buckets bucket) in
        steps_as (exchanged own) AfterTry scene slots seat word party bucket log me there is below
        (either_flag AfterTry scene seat party bucket log (exchanged own)
        (takes_free AfterTry scene seat party bucket log (entry_of (Try party) (Takes bucket))
        (λ flags logs agree made at free. take_agrees scene flags logs party log bucket agree made at next free)
        (λ new free. (λ _. record { seat = new; free = free }, λ not_free. absurd (not_free refl))))
        (λ mark taken. loses_taken AfterTry scene seat party bucket log (exchanged own) mark taken
        (exchange_leaves own mark taken) loss
        (λ flags logs agree made at taken there.
        lose_agrees scene flags logs party log bucket agree made at next (flag_in mark) taken there)
        (λ new held. (λ zero_found. absurd (taken_word mark taken zero_found), λ _. record { seat = new; held = held }))))

    -- an idle party may try any bucket
    tries_at : pass_in log ≡ None → Allows (WordsAndLogsAgree scene) slots seat me word (exchanged (as_word (HeldBy party)))
        (effect_of AfterTryAt me (bucket_of word))
    tries_at idle =
        let own : ℕ = as_word (HeldBy party) in
        let taking : PoolEntry = entry_of (TryAt party bucket) (Takes bucket) in
        steps_as (exchanged own) AfterTryAt scene slots seat word party bucket log me there is below
        (either_flag AfterTryAt scene seat party bucket log (exchanged own)
        (takes_free AfterTryAt scene seat party bucket log taking
        (λ flags logs agree made at free. take_at_agrees scene flags logs party log bucket agree made at idle free)
        (λ new free. (
          λ _. record { ended = record { seat = new; idle = idle_after_one log taking idle refl }; free = free },
          λ not_free. absurd (not_free refl),
        )))
        (misses_at AfterTryAt scene seat party bucket log (exchanged own) idle (exchange_leaves own)
        (λ found new some missed. (λ zero_found. absurd (some zero_found), λ _. missed))))

    -- by the word that names the party
    module _ (own : ℕ) (named : own ≡ as_word (HeldBy party)) where
      pub tries_as : next_bucket log ≡ bucket → Allows (WordsAndLogsAgree scene) slots seat me word (exchanged own)
          (at_flag AfterTry (step slots word 0 own none) me)
      tries_as next = subst (λ (w : ℕ). Allows (WordsAndLogsAgree scene) slots seat me word (exchanged w)
          (effect_of AfterTry me (bucket_of word))) (sym named) (tries next)

      pub tries_at_as : pass_in log ≡ None → Allows (WordsAndLogsAgree scene) slots seat me word (exchanged own)
          (at_flag AfterTryAt (step slots word 0 own none) me)
      tries_at_as idle = subst (λ (w : ℕ). Allows (WordsAndLogsAgree scene) slots seat me word (exchanged w)
          (effect_of AfterTryAt me (bucket_of word))) (sym named) (tries_at idle)

    -- an idle party may look at a bucket before it tries it
    pub looks_at_as : pass_in log ≡ None →
        Allows (WordsAndLogsAgree scene) slots seat me word (λ found. found) (at_flag AfterLook (step slots word 0 0 none) me)
    looks_at_as idle = steps_as (λ found. found) AfterLook scene slots seat word party bucket log me there is below
        (either_flag AfterLook scene seat party bucket log (λ found. found)
        (stays AfterLook scene seat party bucket log Free (λ flags logs agree at free. (
          λ _. record {
            seat = record { is = refl; interleaved = interleaved_log scene flags logs party log agree at };
            idle = idle;
          },
          λ not_free. absurd (not_free refl),
        )))
        (misses_at AfterLook scene seat party bucket log (λ found. found) idle (λ mark taken. refl)
        (λ found new some missed. (λ zero_found. absurd (some zero_found), λ _. missed))))

    -- each party may look whether it holds a bucket
    pub recognizes_as :
        Allows (WordsAndLogsAgree scene) slots seat me word (λ found. found)
        (at_flag AfterHolderLoad (step slots word 0 0 none) me)
    recognizes_as = steps_as (λ found. found) AfterHolderLoad scene slots seat word party bucket log me there is below (λ mark.
        stays AfterHolderLoad scene seat party bucket log mark (λ flags logs agree at there. (
          refl,
          (
            λ named. log_from_named scene flags logs party log bucket agree at
                (there ∙ ap (λ (m : Flag). Some (flag_in m)) (word_names mark party named)),
            λ held.
                let named = named_from_log scene flags logs party log bucket agree at held in
                ap as_word (held_mark mark party (same_Some (flag_in mark) (HeldBy party) (sym there ∙ named))),
          ),
        )))

-- a new seat may look at a flag
pub finds_as : (scene : PoolScene) (slots word bucket : ℕ) → word ≡ word_of bucket → bucket < scene.geometry.buckets →
    Enters (WordsAndLogsAgree scene) slots word (λ found view. finds (step slots word 0 0 none) (all_parties scene, []) found
    (view, []))
finds_as scene slots word bucket there below =
    let Finds : ℕ → ℕ → Type 0 = λ found b. (mark : Flag) × (found ≡ as_word mark) × MayBeFound scene b (flag_in mark) in
    λ state rule homes fits.
    let view : SeatView = standing_for scene [] in
    let mark = mark_at scene state rule bucket below in
    let found = found_in state.words rule.marks bucket mark.0 rule.words mark.1 in (
      view,
      record {
        marks = rule.marks;
        logs = rule.logs;
        agree = rule.agree;
        words = rule.words;
        one_a_party = rule.one_a_party;
        seated = seated_entered scene.parties rule.logs state.views view tt (λ number. refl) rule.seated;
        detached = detached_entered rule.marks state.views view refl rule.detached;
      },
      subst (λ (b : ℕ). Finds (get_or state.words word 0) b) (omega (arith, there)) (
        mark.0,
        ap (λ (w : ℕ). get_or state.words w 0) there ∙ found,
        may_be_found scene (flags_in rule.marks) rule.logs bucket rule.agree (flag_in mark.0)
            (flag_there rule.marks bucket mark.0 mark.1),
      ),
    )

-- STORES

returns_one : (scene : PoolScene) (slots seat party bucket : ℕ) (log : PoolLog) → IsHeldAfter log bucket →
    Allows (WordsAndLogsAgree scene) slots seat (alone scene party log, []) (word_of bucket) (λ _. 0)
    (λ _. AfterReturn scene party log bucket)
returns_one scene slots seat party bucket log held state rule homes at fits =
    let mine = rule.seated.known seat (alone scene party log) at in
    let entry : PoolEntry = entry_of (GiveBack party bucket) (Gives bucket) in
    let flags : List Flag = flags_in rule.marks in
    let marks : List Flag = slice_set rule.marks bucket Free in
    let agree = marked scene rule.marks (with_entry rule.logs party log entry) bucket Free Free refl
    (give_agrees scene flags rule.logs party log bucket rule.agree mine.0 mine.1 held) in (
      alone scene party (log ++ entry ∷ []),
      keeps,
      tt,
      entered scene state rule seat party log entry (set state.words (word_of bucket) 0) marks at agree
          (changed state.words rule.marks bucket Free rule.words)
          (λ b. still_detached rule.marks bucket b Free (λ token.
          held_not_detached scene flags rule.logs party log bucket rule.agree mine.1 held
          (token_detached rule.marks bucket token))),
      told scene (flags_in marks) rule.logs party log entry mine.1 agree,
    )

-- a seat of one party may free a bucket that is held after its log
pub returns_as : (scene : PoolScene) (slots seat word party bucket : ℕ) (log : PoolLog) (me : Me ℕ SeatView) →
    word ≡ word_of bucket → me ≡ (alone scene party log, []) → IsHeldAfter log bucket →
    Allows (WordsAndLogsAgree scene) slots seat me word (λ _. 0) (λ _. returns (step slots word 0 0 none) me 0)
returns_as scene slots seat word party bucket log me there is held =
    at_word (WordsAndLogsAgree scene) slots seat bucket word me (λ _. 0)
    (λ b _. AfterReturn me.0.scene (number_of me.0) (view_log me.0) b) there
    (subst (λ (m : Me ℕ SeatView). Allows (WordsAndLogsAgree scene) slots seat m (word_of bucket) (λ _. 0)
    (λ _. AfterReturn m.0.scene (number_of m.0) (view_log m.0) bucket)) (sym is)
    (returns_one scene slots seat party bucket log held))
