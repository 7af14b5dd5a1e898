-- The numbers of the parties in one list. If no number that was made is in the list twice, the
-- numbers in the list differ. If the list has as many parties as were made, it has each number.
use Rattle.bb_memory_lists.proofs.ListEntries.{HasOne, contains-behind, contains-first, one_of_figure}
use Rattle.bb_memory_seats.proofs.Seatings.{one_apart, one_same}
use Rattle.bb_memory_seats.specs.Seats.{HaveLogs, Numbered, times_in}
use Rattle.std.proofs.Common.{List, Some, [], ap, arith, inl, inr, length, refl, subst, suc, zero, ℕ, ◌+◌, ◌<◌, ◌∷◌, ◌≡◌, ◌≢◌, ◌≤◌}
use Rattle.std.proofs.lemmas.Bool.{cases_eq}
use Rattle.std.proofs.lemmas.Option.{same_Some}
use Rattle.std.specs.List.{AllByRecursion}
use Rattle.std.specs.Prelude.{Contains, map, slice_get}

-- ALL PARTIES IN ONE LIST

-- how many parties of a list have a number below this
abbrev counted : {E : Type 0} → ℕ → List (Numbered E) → ℕ
counted zero parties = 0
counted (suc made) parties = times_in made parties + counted made parties

counted-none : (E : Type 0) (made : ℕ) → counted {E = E} made [] ≡ 0
counted-none E zero = refl
counted-none E (suc made) = let rest = counted-none E made in omega arith

counted-past : {E : Type 0} (made : ℕ) (party : Numbered E) (parties : List (Numbered E)) → made ≤ party.number →
    counted made (party ∷ parties) ≡ counted made parties
counted-past zero party parties past = refl
counted-past (suc made) party parties past =
    let apart = one_apart party.number made (λ same. omega arith) in
    let rest = counted-past made party parties (omega arith) in omega arith

counted-more : {E : Type 0} (made : ℕ) (party : Numbered E) (parties : List (Numbered E)) → party.number < made →
    counted made (party ∷ parties) ≡ 1 + counted made parties
counted-more zero party parties below = absurd (omega arith)
counted-more (suc made) party parties below =
    elim (cases_eq party.number made) [
      | inl same ↦
          let one = one_same party.number made same in
          let rest = counted-past made party parties (omega arith) in omega arith
      | inr other ↦
          let none = one_apart party.number made other in
          let rest = counted-more made party parties (grind (arith, below, other)) in omega arith
    ]

counted-all : {E : Type 0} (made : ℕ) (logs : List (List E)) (parties : List (Numbered E)) → HaveLogs made logs parties →
    counted made parties ≡ length parties
counted-all {E = E} made logs [] have = counted-none E made
counted-all made logs (party ∷ parties) have =
    let more = counted-more made party parties have.0 in
    let rest = counted-all made logs parties have.2 in omega arith

counted-most : {E : Type 0} (made : ℕ) (parties : List (Numbered E)) →
    ((number : ℕ) → number < made → times_in number parties ≤ 1) → counted made parties ≤ made
counted-most zero parties once = omega arith
counted-most (suc made) parties once =
    let here = once made (omega arith) in
    let rest = counted-most made parties (λ number below. once number (omega arith)) in omega arith

counted-few : {E : Type 0} (made missing : ℕ) (parties : List (Numbered E)) → missing < made → times_in missing parties ≡ 0 →
    ((number : ℕ) → number < made → times_in number parties ≤ 1) → counted made parties < made
counted-few zero missing parties below none once = absurd (omega arith)
counted-few (suc made) missing parties below none once =
    elim (cases_eq missing made) [
      | inl same ↦
          let here = ap (λ (n : ℕ). times_in n parties) same in
          let rest = counted-most made parties (λ number less. once number (omega arith)) in omega arith
      | inr other ↦
          let here = once made (omega arith) in
          let rest = counted-few made missing parties (grind (arith, below, other)) none
          (λ number less. once number (omega arith)) in
          omega arith
    ]

-- a list of the number of parties that were made, all different, has each party
pub all_there : {E : Type 0} (made : ℕ) (logs : List (List E)) (parties : List (Numbered E)) → HaveLogs made logs parties →
    ((number : ℕ) → number < made → times_in number parties ≤ 1) → length parties ≡ made →
    (number : ℕ) → number < made → 1 ≤ times_in number parties
all_there made logs parties have once long number below = grind (arith, cases_eq, counted-few, counted-all)

-- NUMBERS

module _ {P E : Type 0} (of : P → Numbered E) where
  abbrev number : P → ℕ
  number party = (of party).number

  -- a party is in the list once, and two parties at different positions with the same number count
  -- twice
  stands_once : (items : List P) (i : ℕ) (one : P) → slice_get items i ≡ Some one → 1 ≤ times_in (number one) (map of items)
  stands_once [] i one at = absurd (cc)
  stands_once (party ∷ items) zero one at =
      let own = one_same (number party) (number one) (ap number (same_Some party one at)) in omega arith
  stands_once (party ∷ items) (suc i) one at = let rest = stands_once items i one at in omega arith

  stands_twice : (items : List P) (i j : ℕ) (one other : P) → slice_get items i ≡ Some one → slice_get items j ≡ Some other →
      i ≢ j → number one ≡ number other → 2 ≤ times_in (number one) (map of items)
  stands_twice [] i j one other at at_other apart same = absurd (cc)
  stands_twice (party ∷ items) zero zero one other at at_other apart same = absurd (apart refl)
  stands_twice (party ∷ items) zero (suc j) one other at at_other apart same = grind (arith, stands_once)
  stands_twice (party ∷ items) (suc i) zero one other at at_other apart same = grind (arith, stands_once)
  stands_twice (party ∷ items) (suc i) (suc j) one other at at_other apart same =
      let rest = stands_twice items i j one other at at_other (λ is. apart (ap suc is)) same in omega arith

  -- its number is one of those that were made
  was_made : (made : ℕ) (logs : List (List E)) (items : List P) (i : ℕ) (one : P) → HaveLogs made logs (map of items) →
      slice_get items i ≡ Some one → number one < made
  was_made made logs [] i one have at = absurd (cc)
  was_made made logs (party ∷ items) zero one have at =
      subst (λ (p : P). number p < made) (same_Some party one at) have.0
  was_made made logs (party ∷ items) (suc i) one have at = was_made made logs items i one have.2 at

  pub numbers_differ : (made : ℕ) (logs : List (List E)) (items : List P) → HaveLogs made logs (map of items) →
      ((n : ℕ) → n < made → times_in n (map of items) ≤ 1) → (i j : ℕ) (one other : P) → slice_get items i ≡ Some one →
      slice_get items j ≡ Some other → i ≢ j → number one ≢ number other
  numbers_differ made logs items have once i j one other at at_other apart same =
      let twice = stands_twice items i j one other at at_other apart same in
      let most = once (number one) (was_made made logs items i one have at) in omega (arith, twice, most)

  -- each party's log is the one that the logs have for it
  pub logs_had : (made : ℕ) (logs : List (List E)) (items : List P) → HaveLogs made logs (map of items) →
      AllByRecursion (λ party. slice_get logs (number party) ≡ Some (of party).log) items
  logs_had made logs [] have = tt
  logs_had made logs (party ∷ items) have = (have.1, logs_had made logs items have.2)

  -- a number in the list is that of one of its parties
  pub has_number : (items : List P) (n : ℕ) → 1 ≤ times_in n (map of items) → Contains (map number items) n
  has_number [] n some = absurd (omega arith)
  has_number (party ∷ items) n some = elim (cases_eq (number party) n) [
    | inl same ↦ contains-first (number party) n (map number items) same
    | inr other ↦ let none = one_apart (number party) n other in
        contains-behind (number party) n (map number items) (has_number items n (omega (arith, some, none)))
  ]

  pub owner : (items : List P) (n : ℕ) → 1 ≤ times_in n (map of items) → HasOne number items n
  owner items n some = one_of_figure number items n (has_number items n some)
