-- Detaching a bucket, attaching it and giving it back keep words and logs in agreement.
use Rattle.atomic_table.specs.Table.{Allows, Me, keeps, step}
use Rattle.bb_memory_lists.proofs.SliceGets.{length-set_at, slice_get-set_same}
use Rattle.bb_memory_pool_machine.proofs.PoolLogFacts.{detached_not_held, held_not_detached, interleaved_log, named_from_log}
use Rattle.bb_memory_pool_machine.proofs.PoolLogSteps.{attach_agrees, detach_agrees, give_detached_agrees}
use Rattle.bb_memory_pool_machine.specs.PoolLogs.{HasLog, Interleaving, IsDetachedIn, IsHeldAfter, LogsAgree, PoolEntry, PoolLog, entry_of, pass_after, pass_in, with_entry}
use Rattle.bb_memory_pool_machine.specs.PoolMachine.{PoolScene}
use Rattle.bb_memory_pool_machine.specs.declared.steps.pool.Flag.{Flag}
use Rattle.bb_memory_pool_machine.specs.declared.steps.pool.Flag.TheVariants.{DetachedBy, Free, HeldBy}
use Rattle.bb_memory_pool_machine.specs.declared.steps.pool.PoolOutcome.TheVariants.{Attaches, Detaches, Gives}
use Rattle.bb_memory_pool_machine.specs.declared.steps.pool.PoolStep.TheVariants.{Attach, Detach, GiveBackDetached}
use Rattle.bb_memory_seats.proofs.Seatings.{seated_with}
use Rattle.bb_memory_seats.specs.Seats.{alone, alone_with, number_of, view_log}
use Rattle.bb_memory_shared_pools.proofs.FlagWords.{at_word, changed, held_mark, marked, token_detached, token_named}
use Rattle.bb_memory_shared_pools.proofs.SharedPoolDetached.{detached_of_seat, fewer_detached_one, more_detached}
use Rattle.bb_memory_shared_pools.proofs.SharedPoolTries.{idle_after_one}
use Rattle.bb_memory_shared_pools.specs.FlagWords.{HasToken, as_word, bucket_of, flag_in, flags_in, with_token, word_of}
use Rattle.bb_memory_shared_pools.specs.SharedPool.{attach_entry, return_detached_entry}
use Rattle.bb_memory_shared_pools.specs.SharedPoolRule.{AfterDetach, AfterGain, SeatView, WordsAndLogsAgree, attaches, detaches, returns_detached}
use Rattle.std.proofs.Common.{List, None, Some, [], ap, refl, subst, suc, sym, zero, ℕ, ◌++◌, ◌<◌, ◌∙◌, ◌∷◌, ◌≡◌}
use Rattle.std.proofs.lemmas.Option.{same_Some}
use Rattle.std.specs.Prelude.{slice_get, slice_set}
use mathlib.Core.Option.{none}

-- the interleavings of a longer log
longer_interleaved : (scene : PoolScene) (flags : List Flag) (logs : List PoolLog) (party : ℕ) (log : PoolLog)
    (entry : PoolEntry) → HasLog logs party log → LogsAgree scene flags (with_entry logs party log entry) →
    Interleaving scene party (log ++ entry ∷ [])
longer_interleaved scene flags logs party log entry at agree =
    interleaved_log scene flags (with_entry logs party log entry) party (log ++ entry ∷ []) agree
    (slice_get-set_same logs party (log ++ entry ∷ []) log at)

-- A store of a word at a bucket, by one party, with this effect at the bucket of the word.
module _ (scene : PoolScene) (slots seat word bucket stored new : ℕ) (old me : Me ℕ SeatView)
    (tells : Me ℕ SeatView → ℕ → Me ℕ SeatView → Type 0) (there : word ≡ word_of bucket) (is : me ≡ old)
    (named : new ≡ stored)
  where
    pub stores_as : Allows (WordsAndLogsAgree scene) slots seat old (word_of bucket) (λ _. stored) (λ _. tells old bucket) →
        Allows (WordsAndLogsAgree scene) slots seat me word (λ _. new) (λ _. tells me (bucket_of word))
    stores_as allowed =
        at_word (WordsAndLogsAgree scene) slots seat bucket word me (λ _. new) (λ b _. tells me b) there
        (subst (λ (m : Me ℕ SeatView). Allows (WordsAndLogsAgree scene) slots seat m (word_of bucket) (λ _. new)
        (λ _. tells m bucket)) (sym is)
        (subst (λ (w : ℕ). Allows (WordsAndLogsAgree scene) slots seat old (word_of bucket) (λ _. w) (λ _. tells old bucket))
        (sym named) allowed))

-- the mark of a bucket that a party holds, which has no token
holder_mark : (marks : List Flag) (bucket party : ℕ) → slice_get (flags_in marks) bucket ≡ Some (HeldBy party) →
    slice_get marks bucket ≡ Some (HeldBy party)
holder_mark [] bucket party named = named
holder_mark (mark ∷ marks) zero party named =
    ap Some (held_mark mark party (same_Some (flag_in mark) (HeldBy party) named))
holder_mark (mark ∷ marks) (suc bucket) party named = holder_mark marks bucket party named

pub held_no_token : (scene : PoolScene) (marks : List Flag) (logs : List PoolLog) (party : ℕ) (log : PoolLog) (bucket : ℕ) →
    LogsAgree scene (flags_in marks) logs → HasLog logs party log → IsHeldAfter log bucket → ¬ HasToken marks bucket
held_no_token scene marks logs party log bucket agree at held token =
    held_not_detached scene (flags_in marks) logs party log bucket agree at held (token_detached marks bucket token)

-- DETACHING

detaches_one : (scene : PoolScene) (slots seat party bucket : ℕ) (log : PoolLog) → party < 4294967296 → 1 < scene.parties →
    IsHeldAfter log bucket →
    Allows (WordsAndLogsAgree scene) slots seat (alone scene party log, []) (word_of bucket) (λ _. as_word (with_token party))
    (λ _. AfterDetach scene party log bucket)
detaches_one scene slots seat party bucket log small others held state rule homes at fits =
    let old : SeatView = alone scene party log in
    let mine = rule.seated.known seat old at in
    let entry : PoolEntry = entry_of (Detach party bucket) (Detaches bucket) in
    let longer : PoolLog = log ++ entry ∷ [] in
    let flags : List Flag = flags_in rule.marks in
    let marks : List Flag = slice_set rule.marks bucket (with_token party) in
    let logs : List PoolLog = with_entry rule.logs party log entry in
    let new : SeatView = alone_with scene party longer bucket in
    let agree = marked scene rule.marks logs bucket (with_token party) (DetachedBy party) (token_named party small)
    (detach_agrees scene flags rule.logs party log bucket rule.agree mine.0 mine.1 others held) in
    let named = holder_mark rule.marks bucket party
    (named_from_log scene flags rule.logs party log bucket rule.agree mine.1 held) in
    let not_yet = held_no_token scene rule.marks rule.logs party log bucket rule.agree mine.1 held in (
      new,
      keeps,
      tt,
      record {
        marks = marks;
        logs = logs;
        agree = agree;
        words = changed state.words rule.marks bucket (with_token party) rule.words;
        one_a_party = length-set_at rule.logs party longer ∙ rule.one_a_party;
        seated = seated_with scene.parties rule.logs state.views seat scene party log longer [] (bucket ∷ []) rule.seated at;
        detached = more_detached rule.marks state.views seat bucket party old new (HeldBy party) refl refl at named not_yet
            rule.detached;
      },
      record { is = refl; interleaved = longer_interleaved scene (flags_in marks) rule.logs party log entry mine.1 agree },
    )

-- a seat of one party, which isn't the only one, may detach a bucket that is held after its log
pub detaches_as : (scene : PoolScene) (slots seat word party bucket new : ℕ) (log : PoolLog) (me : Me ℕ SeatView) →
    word ≡ word_of bucket → me ≡ (alone scene party log, []) → new ≡ as_word (with_token party) → party < 4294967296 →
    1 < scene.parties → IsHeldAfter log bucket →
    Allows (WordsAndLogsAgree scene) slots seat me word (λ _. new) (λ _. detaches (step slots word new 0 none) me new)
detaches_as scene slots seat word party bucket new log me there is named small others held =
    stores_as scene slots seat word bucket (as_word (with_token party)) new (alone scene party log, []) me
    (λ m b. AfterDetach m.0.scene (number_of m.0) (view_log m.0) b) there is named
    (detaches_one scene slots seat party bucket log small others held)

-- ATTACHING, AND GIVING BACK

-- A step of a party at whose seat the bucket is detached, and whose flag then is another.
module _ (scene : PoolScene) (slots seat party bucket : ℕ) (log : PoolLog) (entry : PoolEntry) (flag : Flag)
    (same : flag_in flag ≡ flag) (idle : pass_in log ≡ None) (stays_idle : pass_after None entry.outcome ≡ None)
    (agrees : (flags : List Flag) (logs : List PoolLog) → LogsAgree scene flags logs → party < scene.parties →
    HasLog logs party log → IsDetachedIn flags bucket →
    LogsAgree scene (slice_set flags bucket flag) (with_entry logs party log entry))
  where
    ends_one : Allows (WordsAndLogsAgree scene) slots seat (alone_with scene party log bucket, []) (word_of bucket)
        (λ _. as_word flag) (λ _. AfterGain scene party log (entry ∷ []) bucket)
    ends_one state rule homes at fits =
        let old : SeatView = alone_with scene party log bucket in
        let mine = rule.seated.known seat old at in
        let longer : PoolLog = log ++ entry ∷ [] in
        let flags : List Flag = flags_in rule.marks in
        let marks : List Flag = slice_set rule.marks bucket flag in
        let logs : List PoolLog = with_entry rule.logs party log entry in
        let new : SeatView = alone scene party longer in
        let moving : IsDetachedIn flags bucket =
        token_detached rule.marks bucket (detached_of_seat rule.marks state.views seat bucket old refl at rule.detached) in
        let agree = marked scene rule.marks logs bucket flag flag same
        (agrees flags rule.logs rule.agree mine.0 mine.1 moving) in (
          new,
          keeps,
          tt,
          record {
            marks = marks;
            logs = logs;
            agree = agree;
            words = changed state.words rule.marks bucket flag rule.words;
            one_a_party = length-set_at rule.logs party longer ∙ rule.one_a_party;
            seated =
                seated_with scene.parties rule.logs state.views seat scene party log longer (bucket ∷ []) [] rule.seated at;
            detached = fewer_detached_one rule.marks state.views seat bucket old new flag refl refl at rule.detached;
          },
          record {
            ended = record {
              seat = record { is = refl; interleaved = longer_interleaved scene (flags_in marks) rule.logs party log entry mine.1 agree };
              idle = idle_after_one log entry idle stays_idle;
            };
            free = detached_not_held scene flags rule.logs party log bucket rule.agree mine.1 moving;
          },
        )

-- a seat of one idle party may attach the bucket that is detached there, and may give it back
module _ (scene : PoolScene) (slots seat word party bucket new : ℕ) (log : PoolLog) (me : Me ℕ SeatView)
    (there : word ≡ word_of bucket) (is : me ≡ (alone_with scene party log bucket, [])) (idle : pass_in log ≡ None)
  where
    pub attaches_as : new ≡ as_word (HeldBy party) →
        Allows (WordsAndLogsAgree scene) slots seat me word (λ _. new) (λ _. attaches (step slots word new 0 none) me new)
    attaches_as named =
        let entry : PoolEntry = entry_of (Attach party bucket) (Attaches bucket) in
        stores_as scene slots seat word bucket (as_word (HeldBy party)) new (alone_with scene party log bucket, []) me
        (λ m b. AfterGain m.0.scene (number_of m.0) (view_log m.0) (attach_entry (number_of m.0) b) b) there is named
        (ends_one scene slots seat party bucket log entry (HeldBy party) refl idle refl (λ flags logs agree made at moving.
        attach_agrees scene flags logs party log bucket agree made at idle moving))

    pub returns_detached_as : new ≡ 0 →
        Allows (WordsAndLogsAgree scene) slots seat me word (λ _. new)
        (λ _. returns_detached (step slots word new 0 none) me new)
    returns_detached_as named =
        let entry : PoolEntry = entry_of (GiveBackDetached party bucket) (Gives bucket) in
        stores_as scene slots seat word bucket 0 new (alone_with scene party log bucket, []) me
        (λ m b. AfterGain m.0.scene (number_of m.0) (view_log m.0) (return_detached_entry (number_of m.0) b) b) there is named
        (ends_one scene slots seat party bucket log entry Free refl idle refl (λ flags logs agree made at moving.
        give_detached_agrees scene flags logs party log bucket agree made at idle moving))
