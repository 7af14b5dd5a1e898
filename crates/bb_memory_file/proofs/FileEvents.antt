-- The events that a log gets, one call after another.
use Rattle.bb_memory_file.specs.FileCalls.{Gets, freed_in, has_some, is_on_life, on_life}
use Rattle.bb_memory_file.specs.FileCode.{Event, FileLog}
use Rattle.std.proofs.Common.{Bool, List, [], ap, arith, false, refl, sym, true, ◌++◌, ◌+◌, ◌∙◌, ◌∷◌, ◌≡◌}
use Rattle.std.specs.Prelude.{if◌then◌else◌}

pub append_assoc : {X : Type 0} (one two three : List X) → (one ++ two) ++ three ≡ one ++ (two ++ three)
append_assoc [] two three = refl
append_assoc (x ∷ one) two three = ap (λ xs. x ∷ xs) (append_assoc one two three)

-- one call gets these events after another
pub gets_on : (old middle new : FileLog) (first next : List Event) → Gets old first middle → Gets middle next new →
    Gets old (next ++ first) new
gets_on old middle new first next one two =
    two ∙ ap (λ (log : FileLog). record log { events = next ++ log.events }) one
    ∙ ap (λ events. record old { events = events }) (sym (append_assoc next first old.events))

pub freed_on : (next first : List Event) → freed_in (next ++ first) ≡ freed_in next + freed_in first
freed_on [] first = omega arith
freed_on (event ∷ next) first = let rest = freed_on next first in omega (arith, rest)

on_life_by : (event : Event) (next first : List Event) (is : Bool) → on_life (next ++ first) ≡ on_life next ++ on_life first →
    (if is then event ∷ on_life (next ++ first) else on_life (next ++ first))
    ≡ (if is then event ∷ on_life next else on_life next) ++ on_life first
on_life_by event next first true rest = ap (λ events. event ∷ events) rest
on_life_by event next first false rest = rest

pub on_life_on : (next first : List Event) → on_life (next ++ first) ≡ on_life next ++ on_life first
on_life_on [] first = refl
on_life_on (event ∷ next) first = on_life_by event next first (is_on_life event) (on_life_on next first)

-- the events of one after another are these
pub on_lives : (next first later before : List Event) → on_life next ≡ later → on_life first ≡ before →
    on_life (next ++ first) ≡ later ++ before
on_lives next first later before one other =
    on_life_on next first ∙ ap (λ events. events ++ on_life first) one ∙ ap (λ events. later ++ events) other

module _ {X : Type 0} (test : X → Bool) (first : List X) where
  first_by : (x : X) (next : List X) (is : Bool) → has_some test (next ++ first) ≡ true →
      (if is then true else has_some test (next ++ first)) ≡ true
  first_by x next true rest = refl
  first_by x next false rest = rest

  -- what one of the first has, one of all has
  pub has_first : (next : List X) → has_some test first ≡ true → has_some test (next ++ first) ≡ true
  has_first [] has = has
  has_first (x ∷ next) has = first_by x next (test x) (has_first next has)

  next_by : (next : List X) (is : Bool) → (has_some test next ≡ true → has_some test (next ++ first) ≡ true) →
      (if is then true else has_some test next) ≡ true → (if is then true else has_some test (next ++ first)) ≡ true
  next_by next true rest has = refl
  next_by next false rest has = rest has

  -- what one of the next has, one of all has
  pub has_next : (next : List X) → has_some test next ≡ true → has_some test (next ++ first) ≡ true
  has_next [] has = absurd (cc)
  has_next (x ∷ next) has = next_by next (test x) (has_next next) has

  none_by : (next : List X) (is : Bool) → (has_some test next ≡ false → has_some test (next ++ first) ≡ false) →
      (if is then true else has_some test next) ≡ false → (if is then true else has_some test (next ++ first)) ≡ false
  none_by next true rest none = absurd (cc)
  none_by next false rest none = rest none

  -- what none has, none of all has
  pub has_none : (next : List X) → has_some test first ≡ false → has_some test next ≡ false →
      has_some test (next ++ first) ≡ false
  has_none [] none other = none
  has_none (x ∷ next) none other = none_by next (test x) (has_none next none) other
