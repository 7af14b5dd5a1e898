-- Loads of flags by a seat of several parties, and what they show about detached buckets.
use Rattle.atomic_table.specs.Table.{Allows, Me, keeps, step}
use Rattle.bb_memory_pool_machine.specs.PoolMachine.{PoolScene}
use Rattle.bb_memory_pool_machine.specs.declared.steps.pool.Flag.{Flag}
use Rattle.bb_memory_pool_machine.specs.declared.steps.pool.Flag.TheVariants.{DetachedBy, Free, HeldBy}
use Rattle.bb_memory_seats.specs.Seats.{standing_for}
use Rattle.bb_memory_shared_pools.proofs.FlagWords.{at_word, found_in}
use Rattle.bb_memory_shared_pools.proofs.SharedPoolFlagSteps.{mark_at}
use Rattle.bb_memory_shared_pools.proofs.SharedPoolMeetings.{looked_at, unchanged}
use Rattle.bb_memory_shared_pools.specs.FlagWords.{as_word, flag_in, word_of}
use Rattle.bb_memory_shared_pools.specs.SharedPoolRule.{AfterMeetingLook, FoundDetached, FoundOther, NumberedLog, SeatView, WordsAndLogsAgree, looks_met}
use Rattle.std.proofs.Common.{List, Some, [], ap, arith, refl, subst, sym, ℕ, ◌∙◌, ◌≡◌, ◌≢◌}
use Rattle.std.proofs.lemmas.Option.{same_Some}
use Rattle.std.specs.Prelude.{◌%◌, ◌<◌}
use mathlib.Core.Option.{none}

-- A LOAD

-- the effect of a load of a bucket's flag on the seat, and what the load finds
abbrev looks : Me ℕ SeatView → ℕ → ℕ → Me ℕ SeatView → Type 0
looks old bucket found new = (new ≡ old) × AfterMeetingLook old.0.scene old.0.parties bucket found

looks_at : (scene : PoolScene) (slots seat bucket : ℕ) (parties : List NumberedLog) → bucket < scene.geometry.buckets →
    let view = standing_for scene parties in
    Allows (WordsAndLogsAgree scene) slots seat (view, []) (word_of bucket) (λ found. found) (looks (view, []) bucket)
looks_at scene slots seat bucket parties below state rule homes at fits =
    let view : SeatView = standing_for scene parties in
    let mark = mark_at scene state rule bucket below in (
      view,
      keeps,
      tt,
      unchanged scene state seat (word_of bucket) view at rule,
      (
        refl,
        looked_at scene state rule seat view at bucket _ mark.0
            (found_in state.words rule.marks bucket mark.0 rule.words mark.1) mark.1,
      ),
    )

-- a seat of any number of parties may look at a flag
pub looks_as : (scene : PoolScene) (slots seat word bucket : ℕ) (parties : List NumberedLog) (me : Me ℕ SeatView) →
    word ≡ word_of bucket → me ≡ (standing_for scene parties, []) → bucket < scene.geometry.buckets →
    Allows (WordsAndLogsAgree scene) slots seat me word (λ found. found) (looks_met (step slots word 0 0 none) me)
looks_as scene slots seat word bucket parties me there is below =
    at_word (WordsAndLogsAgree scene) slots seat bucket word me (λ found. found) (looks me) there
    (subst (λ (m : Me ℕ SeatView). Allows (WordsAndLogsAgree scene) slots seat m (word_of bucket) (λ found. found) (looks m bucket))
    (sym is) (looks_at scene slots seat bucket parties below))

-- WHAT A WORD SAYS

-- a word that is even and not 0 encodes that its bucket is detached
even_word : (mark : Flag) → as_word mark ≢ 0 → as_word mark % 2 ≡ 0 → (sender : ℕ) × (flag_in mark ≡ DetachedBy sender)
even_word Free some even = absurd (some refl)
even_word (HeldBy party) some even = absurd (omega arith)
even_word (DetachedBy sender) some even = (sender % 4294967296, refl)

-- each word of a detached bucket is even and not 0
word_is_even : (mark : Flag) (sender : ℕ) → flag_in mark ≡ DetachedBy sender → (as_word mark ≢ 0) × (as_word mark % 2 ≡ 0)
word_is_even Free sender same = absurd (cc)
word_is_even (HeldBy party) sender same = absurd (cc)
word_is_even (DetachedBy at) sender same = (λ zero. omega arith, omega arith)

module _ (scene : PoolScene) (parties : List NumberedLog) (bucket found : ℕ) (look : AfterMeetingLook scene parties bucket found)
  where
    pub found_detached : found ≢ 0 → found % 2 ≡ 0 → FoundDetached scene parties bucket
    found_detached some even =
        let says = even_word look.mark (λ zero. some (look.word ∙ zero)) (ap (λ (w : ℕ). w % 2) (sym look.word) ∙ even) in
        (look.met, (says.0, look.there ∙ ap Some says.1))

    pub found_other : ¬ ((found ≢ 0) × (found % 2 ≡ 0)) → FoundOther scene parties bucket
    found_other other = (
      look.met,
      λ detached.
          let flag = same_Some (flag_in look.mark) (DetachedBy detached.0) (sym look.there ∙ detached.1) in
          let is = word_is_even look.mark detached.0 flag in
          other (λ zero. is.0 (sym look.word ∙ zero), ap (λ (w : ℕ). w % 2) look.word ∙ is.1),
    )
