-- Whoever takes a number's lock counts a greater life than all before.
use Rattle.bb_memory_file_machine.proofs.FileEffects.{lock_before, one_value, set_cases}
use Rattle.bb_memory_file_machine.proofs.FileInvariant.{Holds}
use Rattle.bb_memory_file_machine.proofs.FileKinds.{Kind, counts, dies, kind_of, locks, refuses, releases, unlocks, unlocks_first}
use Rattle.bb_memory_file_machine.proofs.FileSteps.{effect_of, holds_always, holds_step}
use Rattle.bb_memory_file_machine.proofs.FileTheorem.{life_effect}
use Rattle.bb_memory_file_machine.specs.FileLaws.{Effect, HasCounted, IsLife, IsLock, IsPlace}
use Rattle.bb_memory_file_machine.specs.FileLaws as laws
use Rattle.bb_memory_file_machine.specs.FileMachine.{Counting, Dead, FileChange, FileMove, FileOutcome, FileScene, FileState, FileStep, FileWords, Lock, OnLock, Place, change_at, change_by, file_after, file_step, left_by, move_at, process_of}
use Rattle.bb_memory_lists.proofs.SliceGets.{slice_get-set, slice_get-set_apart, slice_get-set_at, slice_get-set_same}
use Rattle.std.proofs.Common.{List, None, Option, Some, [], ap, arith, inl, inr, refl, subst, sym, ℕ, ◌<◌, ◌∙◌, ◌∷◌, ◌≡◌, ◌≢◌, ◌≤◌}
use Rattle.std.proofs.lemmas.Bool.{cases_eq}
use Rattle.std.specs.Prelude.{slice_get, slice_set, ◌⊎◌}

-- the effect of a step whose process is at this place
effect_by : (state : FileState) (step : FileStep) (place : Place) → IsPlace state (process_of step) place → Holds state →
    let move = move_at state.words place step in Effect state.words (process_of step) move.outcome move.words
effect_by state step place there holds =
    effect_of state.words place step (move_at state.words place step) (kind_of state.words place step) holds.sound
    (holds.each (process_of step) place there)

module _ (party life : ℕ) where
  -- a process with the number's lock that has come so far hasn't counted, or is dead
  abbrev IsFresh : Place → Type 0
  IsFresh Dead = Unit {0}
  IsFresh (Counting number) = number ≡ party
  IsFresh _ = ⊥

  -- the number's life is greater
  abbrev IsBeyond : FileWords → Type 0
  IsBeyond words = (more : ℕ) × IsLife words party more × (life < more)

  -- the number has this life, and who has its lock hasn't counted, or is dead
  abbrev IsUncounted : FileState → Type 0
  IsUncounted state = IsLife state.words party life
      × ((process : ℕ) (place : Place) → IsLock state.words party process → IsPlace state process place → IsFresh place)

  -- a number's life that is greater is so after each effect
  beyond_after : (words later : FileWords) (process : ℕ) (outcome : FileOutcome) → Effect words process outcome later →
      IsBeyond words → IsBeyond later
  beyond_after words later process outcome (laws.counts number old new own is less) (more, before, greater) =
      elim (cases_eq number party) [
        | inl same ↦
            let was = one_value words.lives number old more is (ap (slice_get words.lives) same ∙ before) in
            (new, slice_get-set_at words.lives number party new old same is, omega (arith, was, less, greater))
        | inr apart ↦ (more, slice_get-set_apart words.lives number party new apart ∙ before, greater)
      ]
  beyond_after words later process outcome _ beyond = beyond

  -- a process's own step leaves it so, as long as the life is this one
  own_fresh : (words : FileWords) (place : Place) (step : FileStep) (move : FileMove) → Kind words place step move →
      IsLife words party life → IsLife move.words party life →
      (IsLock words party (process_of step) → IsFresh place) → IsLock move.words party (process_of step) → IsFresh move.place
  own_fresh words place step move (locks process number free) before now was lock = elim (cases_eq number party) [
    | inl same ↦ same
    | inr apart ↦
        let had = sym (slice_get-set_apart words.locks number party (Some process) apart) ∙ lock in absurd (was had)
  ]
  own_fresh words place step move (counts process number old new is less) before now was lock =
      let same = was lock in
      let old_is = one_value words.lives number old life is (ap (slice_get words.lives) same ∙ before) in
      let new_is = one_value (slice_set words.lives number new) party new life
      (slice_get-set_at words.lives number party new old same is) now in
      absurd (omega (arith, old_is, new_is, less))
  own_fresh words place step move (unlocks_first process number) before now was lock =
      elim (slice_get-set words.locks number party None (Some process) lock) [
        | inl had ↦ absurd (was had)
        | inr this ↦ let locks = this.1 in absurd (cc)
      ]
  own_fresh words place step move (unlocks process number) before now was lock =
      elim (slice_get-set words.locks number party None (Some process) lock) [
        | inl had ↦ absurd (was had)
        | inr this ↦ let locks = this.1 in absurd (cc)
      ]
  own_fresh words place step move (dies process at) before now was lock = tt
  own_fresh words place step move (releases process number own) before now was lock = tt
  own_fresh words place step move (refuses at taken) before now was lock = was lock
  own_fresh words place step move _ before now was lock = absurd (was lock)

  -- a number with a life has one after each effect
  life_after : (words later : FileWords) (process : ℕ) (outcome : FileOutcome) (old : ℕ) → Effect words process outcome later →
      IsLife words party old → (new : ℕ) × IsLife later party new
  life_after words later process outcome old (laws.counts number before new own is less) there =
      elim (cases_eq number party) [
        | inl same ↦ (new, slice_get-set_at words.lives number party new before same is)
        | inr apart ↦ (old, slice_get-set_apart words.lives number party new apart ∙ there)
      ]
  life_after words later process outcome old _ there = (old, there)

  same_or_more : (n : ℕ) → life ≤ n → (n ≡ life) ⊎ (life < n)
  same_or_more n most = grind arith

  still_uncounted : (state : FileState) (step : FileStep) (place : Place) → IsPlace state (process_of step) place →
      Holds state → IsUncounted state → let later = (change_at state step (Some place)).state in
      IsLife later.words party life → IsUncounted later
  still_uncounted state step place there holds (before, fresh) now = (
    now,
    (λ other at lock at_now.
        let move : FileMove = move_at state.words place step in
        let kind : Kind state.words place step move = kind_of state.words place step in
        let effect : Effect state.words (process_of step) move.outcome move.words = effect_by state step place there holds in
        elim (set_cases state.places (process_of step) other move.place place at there at_now) [
          | inl rest ↦
              fresh other at (lock_before state.words move.words (process_of step) other party move.outcome effect rest.0 lock) rest.1
          | inr this ↦ subst IsFresh this.1
              (own_fresh state.words place step move kind before now (λ own. fresh (process_of step) place own there)
              (lock ∙ ap (λ (p : ℕ). Some (Some p)) (sym this.0)))
        ]),
  )

  -- each step leaves the number uncounted, or makes its life greater
  counted_by : (state : FileState) (step : FileStep) (found : Option Place) → slice_get state.places (process_of step) ≡ found →
      Holds state → IsBeyond state.words ⊎ IsUncounted state →
      IsBeyond (change_at state step found).state.words ⊎ IsUncounted (change_at state step found).state
  counted_by state step None there holds is = is
  counted_by state step (Some place) there holds (inl beyond) =
      let move : FileMove = move_at state.words place step in
      let effect : Effect state.words (process_of step) move.outcome move.words = effect_by state step place there holds in
      inl (beyond_after state.words move.words (process_of step) move.outcome effect beyond)
  counted_by state step (Some place) there holds (inr uncounted) =
      let move : FileMove = move_at state.words place step in
      let effect : Effect state.words (process_of step) move.outcome move.words = effect_by state step place there holds in
      let found = life_after state.words move.words (process_of step) move.outcome life effect uncounted.0 in
      let most = life_effect state.words move.words (process_of step) move.outcome party life found.0 effect uncounted.0 found.1 in
      elim (same_or_more found.0 most) [
        | inl same ↦ inr (still_uncounted state step place there holds uncounted (found.1 ∙ ap (λ (n : ℕ). Some n) same))
        | inr more ↦ inl (found.0, found.1, more)
      ]

  counted_after : (state : FileState) (steps : List FileStep) → Holds state → IsBeyond state.words ⊎ IsUncounted state →
      IsBeyond (file_after state steps).words ⊎ IsUncounted (file_after state steps)
  counted_after state [] holds is = is
  counted_after state (step ∷ steps) holds is =
      counted_after (file_step state step).state steps (holds_step state step holds)
      (counted_by state step (slice_get state.places (process_of step)) refl holds is)

  -- a process that has counted is none that hasn't
  not_fresh : (place : Place) → place ≢ Dead → place ≢ Counting party → ¬ IsFresh place
  not_fresh Dead living counted fresh = living refl
  not_fresh (Counting number) living counted fresh = counted (ap Counting fresh)
  not_fresh place living counted fresh = absurd fresh

  greater_then : (state : FileState) (process more : ℕ) → HasCounted state process party more →
      IsBeyond state.words ⊎ IsUncounted state → life < more
  greater_then state process more has (inl beyond) =
      let same = one_value state.words.lives party beyond.0 more beyond.1 has.has_life in
      let less = beyond.2 in omega (arith, same, less)
  greater_then state process more has (inr uncounted) =
      absurd (not_fresh has.place has.living has.counted (uncounted.1 process has.place has.lock has.there))

  -- who takes the number's lock hasn't counted yet
  taken_uncounted : (state : FileState) (place : Place) (step : FileStep) (move : FileMove) (process : ℕ) →
      Kind state.words place step move → step ≡ Lock process party → move.outcome ≡ OnLock party →
      IsPlace state (process_of step) place → IsLife state.words party life →
      IsUncounted (change_by state (process_of step) move).state
  taken_uncounted state place step move process (locks by number free) is said there before = (
    before,
    (λ other at lock at_now.
        let same : number ≡ party = cc in
        let mine = slice_get-set_at state.words.locks number party (Some by) None same free in
        let locks = one_value (slice_set state.words.locks number (Some by)) party (Some by) (Some other) mine lock in
        let owner : by ≡ other = cc in
        let placed : Counting number ≡ at =
        one_value (slice_set state.places by (Counting number)) by (Counting number) at
        (slice_get-set_same state.places by (Counting number) place there)
        (ap (slice_get (slice_set state.places by (Counting number))) owner ∙ at_now) in
        subst IsFresh placed same),
  )
  taken_uncounted state place step move process _ is said there before = absurd (cc)

  taken_at : (state : FileState) (process : ℕ) (found : Option Place) → slice_get state.places process ≡ found →
      IsLife state.words party life → (change_at state (Lock process party) found).outcome ≡ OnLock party →
      IsUncounted (change_at state (Lock process party) found).state
  taken_at state process None there before said = absurd (cc)
  taken_at state process (Some place) there before said =
      let step : FileStep = Lock process party in
      taken_uncounted state place step (move_at state.words place step) process (kind_of state.words place step)
      refl said there before

pub one_life : (scene : FileScene) (before after : List FileStep) (process other party life more : ℕ) →
    IsLife (left_by scene before).words party life →
    let taken : FileChange = file_step (left_by scene before) (Lock process party) in
    taken.outcome ≡ OnLock party → HasCounted (file_after taken.state after) other party more → life < more
one_life scene before after process other party life more there said has =
    let state : FileState = left_by scene before in
    let step : FileStep = Lock process party in
    let taken : FileChange = file_step state step in
    greater_then party life (file_after taken.state after) other more has
    (counted_after party life taken.state after (holds_step state step (holds_always scene before))
    (inr (taken_at party life state process (slice_get state.places process) refl there said)))
