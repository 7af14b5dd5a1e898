-- Steps of a party at the flag of a bucket keep words and logs in agreement, whichever flag is found.
use Rattle.atomic_table.specs.Table.{Act, Allows, Me, State, Valid, carried_after, keeps, stepped}
use Rattle.bb_memory_lists.proofs.SliceGets.{length-set_at, slice_get-set_same}
use Rattle.bb_memory_pool_machine.proofs.PoolLogFacts.{free_not_held, interleaved_log, length-flags, taken_is_held_alone}
use Rattle.bb_memory_pool_machine.specs.PoolLogs.{HasLog, IsHeldAfter, LogsAgree, PoolEntry, PoolLog, is_taken, with_entry}
use Rattle.bb_memory_pool_machine.specs.PoolMachine.{PoolScene}
use Rattle.bb_memory_pool_machine.specs.declared.steps.pool.Flag.{Flag}
use Rattle.bb_memory_pool_machine.specs.declared.steps.pool.Flag.TheVariants.{DetachedBy, Free, HeldBy}
use Rattle.bb_memory_seats.proofs.Seatings.{seated_step}
use Rattle.bb_memory_seats.specs.Seats.{alone}
use Rattle.bb_memory_shared_pools.proofs.FlagWords.{at_word, changed, exchanged, flag_there, found_in, made_again, mark_taken, marked}
use Rattle.bb_memory_shared_pools.proofs.SharedPoolDetached.{detached_kept, free_not_detached, still_detached}
use Rattle.bb_memory_shared_pools.proofs.SharedPoolMeetings.{unchanged}
use Rattle.bb_memory_shared_pools.specs.FlagWords.{HasToken, as_word, bucket_of, flag_in, flags_in, word_of, words_of}
use Rattle.bb_memory_shared_pools.specs.SharedPoolRule.{IsSeatOf, SeatView, StepEffect, WordsAndLogsAgree, effect_of}
use Rattle.std.proofs.Common.{List, Some, [], ap, arith, length, refl, set, subst, suc, sym, true, zero, ℕ, ◌++◌, ◌<◌, ◌∙◌, ◌∷◌, ◌≡◌}
use Rattle.std.proofs.lemmas.List.{length-map}
use Rattle.std.specs.Prelude.{slice_get, slice_set}
use lib.ListN.{get_elem?}
use mathlib.Core.Option.{some}

-- MARKS

some_at : (marks : List Flag) (i : ℕ) → i < length marks → (mark : Flag) × (slice_get marks i ≡ Some mark)
some_at [] i below = absurd (omega arith)
some_at (mark ∷ marks) zero below = (mark, refl)
some_at (mark ∷ marks) (suc i) below = some_at marks i (omega arith)

-- each bucket has a mark
pub mark_at : (scene : PoolScene) (state : State ℕ SeatView) (rule : WordsAndLogsAgree scene state) (bucket : ℕ) →
    bucket < scene.geometry.buckets → (mark : Flag) × (slice_get rule.marks bucket ≡ Some mark)
mark_at scene state rule bucket below =
    let count = length-flags scene (flags_in rule.marks) rule.logs rule.agree in
    some_at rule.marks bucket (omega (arith, length-map rule.marks flag_in))

-- ONE STEP

-- the rule after an operation of a party whose seat stands only for that party, with which the party's log becomes `longer`
pub lengthened : (scene : PoolScene) (state : State ℕ SeatView) (rule : WordsAndLogsAgree scene state) (seat party : ℕ)
    (log longer : PoolLog) (words : List ℕ) (marks : List Flag) →
    get_elem? state.views seat ≡ some (alone scene party log) →
    LogsAgree scene (flags_in marks) (slice_set rule.logs party longer) →
    words ≡ words_of marks → ((b : ℕ) → HasToken rule.marks b → HasToken marks b) →
    WordsAndLogsAgree scene
    record { words = words; homes = state.homes; views = set state.views seat (alone scene party longer) }
lengthened scene state rule seat party log longer words marks at agree are keep = record {
  marks = marks;
  logs = slice_set rule.logs party longer;
  agree = agree;
  words = are;
  one_a_party = length-set_at rule.logs party longer ∙ rule.one_a_party;
  seated = seated_step scene.parties rule.logs state.views seat scene party log longer rule.seated at;
  detached = detached_kept rule.marks marks state.views seat (alone scene party log) (alone scene party longer) refl refl at
      rule.detached keep;
}

-- the effect of such an operation: the longer log is interleaved with others'
pub told_longer : (scene : PoolScene) (flags : List Flag) (logs : List PoolLog) (party : ℕ) (log longer : PoolLog) →
    HasLog logs party log → LogsAgree scene flags (slice_set logs party longer) →
    IsSeatOf scene party longer (alone scene party longer, [])
told_longer scene flags logs party log longer at agree = record {
  is = refl;
  interleaved = interleaved_log scene flags (slice_set logs party longer) party longer agree
      (slice_get-set_same logs party longer log at);
}

-- the rule after a step of a party whose seat stands only for that party
pub entered : (scene : PoolScene) (state : State ℕ SeatView) (rule : WordsAndLogsAgree scene state) (seat party : ℕ)
    (log : PoolLog) (entry : PoolEntry) (words : List ℕ) (marks : List Flag) →
    get_elem? state.views seat ≡ some (alone scene party log) →
    LogsAgree scene (flags_in marks) (with_entry rule.logs party log entry) →
    words ≡ words_of marks → ((b : ℕ) → HasToken rule.marks b → HasToken marks b) →
    WordsAndLogsAgree scene
    record { words = words; homes = state.homes; views = set state.views seat (alone scene party (log ++ entry ∷ [])) }
entered scene state rule seat party log entry words marks at agree are keep =
    lengthened scene state rule seat party log (log ++ entry ∷ []) words marks at agree are keep

-- the effect of such a step: the log is longer, and interleaved with others'
pub told : (scene : PoolScene) (flags : List Flag) (logs : List PoolLog) (party : ℕ) (log : PoolLog) (entry : PoolEntry) →
    HasLog logs party log → LogsAgree scene flags (with_entry logs party log entry) →
    IsSeatOf scene party (log ++ entry ∷ []) (alone scene party (log ++ entry ∷ []), [])
told scene flags logs party log entry at agree = told_longer scene flags logs party log (log ++ entry ∷ []) at agree

-- STEPS AT A FLAG

-- the effects that a step may have that found a word, which then becomes another
abbrev pub Allowed : (ℕ → ℕ) → StepEffect → PoolScene → State ℕ SeatView → ℕ → ℕ → Me ℕ SeatView → ℕ → Type 0
Allowed becomes tells scene state seat bucket me found = (new : SeatView) × (act : Act ℕ) × Valid state.homes me.1 act
    × WordsAndLogsAgree scene (stepped state (word_of bucket) (becomes found) seat me.1 new act)
    × effect_of tells me bucket found (new, carried_after me.1 act)

-- A step at the flag of a bucket, by a party whose seat stands only for that party.
module _ (tells : StepEffect) (scene : PoolScene) (seat party bucket : ℕ) (log : PoolLog) where
  -- the step is allowed if the bucket has this mark
  abbrev pub AllowedAt : (ℕ → ℕ) → Flag → Type 0
  AllowedAt becomes mark = (state : State ℕ SeatView) (rule : WordsAndLogsAgree scene state) →
      get_elem? state.views seat ≡ some (alone scene party log) → slice_get rule.marks bucket ≡ Some mark →
      Allowed becomes tells scene state seat bucket (alone scene party log, []) (as_word mark)

  -- at a free bucket, whose flag names the party then
  pub takes_free : (entry : PoolEntry) →
      ((flags : List Flag) (logs : List PoolLog) → LogsAgree scene flags logs → party < scene.parties →
      HasLog logs party log → slice_get flags bucket ≡ Some Free →
      LogsAgree scene (slice_set flags bucket (HeldBy party)) (with_entry logs party log entry)) →
      (IsSeatOf scene party (log ++ entry ∷ []) (alone scene party (log ++ entry ∷ []), []) →
      ¬ IsHeldAfter log bucket → tells scene party log bucket 0 (alone scene party (log ++ entry ∷ []), [])) →
      AllowedAt (exchanged (as_word (HeldBy party))) Free
  takes_free entry takes told_taking state rule at free =
      let mine = rule.seated.known seat (alone scene party log) at in
      let marks : List Flag = slice_set rule.marks bucket (HeldBy party) in
      let logs : List PoolLog = with_entry rule.logs party log entry in
      let there = flag_there rule.marks bucket Free free in
      let agree = marked scene rule.marks logs bucket (HeldBy party) (HeldBy party) refl
      (takes (flags_in rule.marks) rule.logs rule.agree mine.0 mine.1 there) in (
        alone scene party (log ++ entry ∷ []),
        keeps,
        tt,
        entered scene state rule seat party log entry (set state.words (word_of bucket) (as_word (HeldBy party))) marks at agree
            (changed state.words rule.marks bucket (HeldBy party) rule.words)
            (λ b. still_detached rule.marks bucket b (HeldBy party) (free_not_detached rule.marks bucket free)),
        told_taking (told scene (flags_in marks) rule.logs party log entry mine.1 agree)
            (free_not_held scene (flags_in rule.marks) rule.logs party log bucket rule.agree mine.1 there),
      )

  -- at a taken bucket, whose flag stays
  pub loses_taken : (becomes : ℕ → ℕ) (mark : Flag) → is_taken mark ≡ true → becomes (as_word mark) ≡ as_word mark →
      (entry : PoolEntry) →
      ((flags : List Flag) (logs : List PoolLog) → LogsAgree scene flags logs → party < scene.parties →
      HasLog logs party log → is_taken (flag_in mark) ≡ true → slice_get flags bucket ≡ Some (flag_in mark) →
      LogsAgree scene flags (with_entry logs party log entry)) →
      (IsSeatOf scene party (log ++ entry ∷ []) (alone scene party (log ++ entry ∷ []), []) →
      (scene.parties ≡ 1 → IsHeldAfter log bucket) →
      tells scene party log bucket (as_word mark) (alone scene party (log ++ entry ∷ []), [])) →
      AllowedAt becomes mark
  loses_taken becomes mark taken same entry loses told_loss state rule at there =
      let mine = rule.seated.known seat (alone scene party log) at in
      let made = mine.0 in
      let flags : List Flag = flags_in rule.marks in
      let flag = flag_there rule.marks bucket mark there in
      let is = mark_taken mark taken in
      let agree = loses flags rule.logs rule.agree made mine.1 is flag in (
        alone scene party (log ++ entry ∷ []),
        keeps,
        tt,
        entered scene state rule seat party log entry (set state.words (word_of bucket) (becomes (as_word mark))) rule.marks at
            agree
            (ap (λ (word : ℕ). set state.words (word_of bucket) word) same
            ∙ made_again state.words rule.marks bucket mark rule.words there)
            (λ b detached. detached),
        told_loss (told scene flags rule.logs party log entry mine.1 agree) (λ one.
            let first : party ≡ 0 = omega (arith, made, one) in
            taken_is_held_alone scene flags rule.logs log bucket rule.agree one
            (subst (λ n. HasLog rule.logs n log) first mine.1) (flag_in mark) is flag),
      )

  -- a load that is in no log
  pub stays : (mark : Flag) → ((flags : List Flag) (logs : List PoolLog) → LogsAgree scene flags logs → HasLog logs party log →
      slice_get flags bucket ≡ Some (flag_in mark) →
      tells scene party log bucket (as_word mark) (alone scene party log, [])) →
      AllowedAt (λ found. found) mark
  stays mark told_so state rule at there =
      let mine = rule.seated.known seat (alone scene party log) at in
      let found = found_in state.words rule.marks bucket mark rule.words there in (
        alone scene party log,
        keeps,
        tt,
        subst (λ (n : ℕ). WordsAndLogsAgree scene record {
          words = set state.words (word_of bucket) n;
          homes = state.homes;
          views = set state.views seat (alone scene party log);
        }) found (unchanged scene state seat (word_of bucket) (alone scene party log) at rule),
        told_so (flags_in rule.marks) rule.logs rule.agree mine.1 (flag_there rule.marks bucket mark there),
      )

  -- a free flag and a taken one are all that there are
  pub either_flag : (becomes : ℕ → ℕ) → AllowedAt becomes Free → ((mark : Flag) → is_taken mark ≡ true → AllowedAt becomes mark) →
      (mark : Flag) → AllowedAt becomes mark
  either_flag becomes free taken Free = free
  either_flag becomes free taken (HeldBy holder) = taken (HeldBy holder) refl
  either_flag becomes free taken (DetachedBy sender) = taken (DetachedBy sender) refl

-- A step that is allowed for each mark of the bucket is allowed at each bucket of the pool.
module _ (becomes : ℕ → ℕ) (tells : StepEffect) (scene : PoolScene) (slots seat word party bucket : ℕ) (log : PoolLog)
    (me : Me ℕ SeatView) (there : word ≡ word_of bucket) (is : me ≡ (alone scene party log, []))
    (below : bucket < scene.geometry.buckets)
    (at_marks : (mark : Flag) → AllowedAt tells scene seat party bucket log becomes mark)
  where
    at_bucket : Allows (WordsAndLogsAgree scene) slots seat (alone scene party log, []) (word_of bucket) becomes
        (effect_of tells (alone scene party log, []) bucket)
    at_bucket state rule homes at fits =
        let mark = mark_at scene state rule bucket below in
        let found = found_in state.words rule.marks bucket mark.0 rule.words mark.1 in
        subst (Allowed becomes tells scene state seat bucket (alone scene party log, [])) (sym found)
        (at_marks mark.0 state rule at mark.1)

    pub steps_as : Allows (WordsAndLogsAgree scene) slots seat me word becomes (effect_of tells me (bucket_of word))
    steps_as = at_word (WordsAndLogsAgree scene) slots seat bucket word me becomes (effect_of tells me) there
        (subst (λ (m : Me ℕ SeatView). Allows (WordsAndLogsAgree scene) slots seat m (word_of bucket) becomes
        (effect_of tells m bucket)) (sym is) at_bucket)
