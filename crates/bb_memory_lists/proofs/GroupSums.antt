-- Sums of a measure over items in numbered groups.
use Rattle.std.proofs.Common.{List, [], ap, arith, cond, get_or, length, refl, set, suc, zero, ℕ, ◌+◌, ◌-◌, ◌∷◌, ◌≡◌, ◌≤◌}
use Rattle.std.proofs.lemmas.Bool.{cases_eq, cases_lt, eq-eqb, ne_eqb}
use Rattle.std.proofs.lemmas.Grind.{common_steps}
use Rattle.std.proofs.lemmas.List.{get_or-set_other, get_or-set_same, get_or_past, set_past}
use Rattle.std.proofs.lemmas.List.Sums.{sum_by-cons, sum_by-set}
use Rattle.std.specs.Prelude.{sum, sum_by, ◌==◌}
use mathlib.Core.Logic.{⊎_elim}

-- a list of zeros makes zero
zeros : (sums : List ℕ) → ((number : ℕ) → 0 ≡ get_or sums number 0) → 0 ≡ sum sums
zeros [] none = refl
zeros (first ∷ sums) none =
    let rest = zeros sums (λ number. none (suc number)) in
    let here : 0 ≡ first = none zero in
    omega (arith, here, rest, sum_by-cons (λ n. n) first sums)

-- the sums with one of them less by this much
abbrev less : List ℕ → ℕ → ℕ → List ℕ
less sums number by = set sums number (get_or sums number 0 - by)

less-there : (sums : List ℕ) (number by : ℕ) → get_or (less sums number by) number 0 ≡ get_or sums number 0 - by
less-there sums number by = ⊎_elim
    (λ within. get_or-set_same sums number (get_or sums number 0 - by) 0 within)
    (λ past.
    let none = get_or_past sums number 0 past in
    let still = ap (λ s. get_or s number 0) (set_past sums number (get_or sums number 0 - by) past) in
    omega (arith, none, still))
    (cases_lt number (length sums))

less-sum : (sums : List ℕ) (number by : ℕ) → by ≤ get_or sums number 0 → sum (less sums number by) + by ≡ sum sums
less-sum sums number by le = ⊎_elim
    (λ within. omega (arith, le, sum_by-set (λ n. n) sums number (get_or sums number 0 - by) 0 within))
    (λ past.
    let none = get_or_past sums number 0 past in
    let still = ap sum (set_past sums number (get_or sums number 0 - by) past) in
    omega (arith, le, none, still))
    (cases_lt number (length sums))

module _ {X : Type 0} (group measure : X → ℕ) where
  -- the summand of an item in the sum of a group
  abbrev share : ℕ → X → ℕ
  share number x = cond (group x == number) (measure x) 0

  own : (x : X) → share (group x) x ≡ measure x
  own x = ap (λ b. cond b (measure x) 0) (eq-eqb (group x) (group x) refl)

  other : (x : X) (number : ℕ) → (group x ≡ number → ⊥) → share number x ≡ 0
  other x number differ = ap (λ b. cond b (measure x) 0) (ne_eqb (group x) number differ)

  -- without the first item each sum is less by its share
  abbrev without : X → List ℕ → List ℕ
  without x sums = less sums (group x) (measure x)

  left : (x : X) (sums : List ℕ) (number : ℕ) → get_or (without x sums) number 0 ≡ get_or sums number 0 - share number x
  left x sums number = grind (arith, common_steps, get_or, less-there, own, other, get_or-set_other, cases_eq)

  pub within : (xs : List X) (bounds : List ℕ) → ((number : ℕ) → sum_by (share number) xs ≤ get_or bounds number 0) →
      sum_by measure xs ≤ sum bounds
  within [] bounds all = omega arith
  within (x ∷ xs) bounds all =
      let below : measure x ≤ get_or bounds (group x) 0 =
      omega (arith, own x, all (group x), sum_by-cons (share (group x)) x xs) in
      let rest = within xs (without x bounds)
      (λ number. omega (arith, left x bounds number, all number, sum_by-cons (share number) x xs)) in
      omega (arith, rest, less-sum bounds (group x) (measure x) below, sum_by-cons measure x xs)

  pub together : (xs : List X) (sums : List ℕ) → ((number : ℕ) → sum_by (share number) xs ≡ get_or sums number 0) →
      sum_by measure xs ≡ sum sums
  together [] sums all = zeros sums all
  together (x ∷ xs) sums all =
      let below : measure x ≤ get_or sums (group x) 0 = omega (arith, own x, all (group x), sum_by-cons (share (group x)) x xs) in
      let rest = together xs (without x sums)
      (λ number. omega (arith, left x sums number, all number, sum_by-cons (share number) x xs)) in
      omega (arith, rest, less-sum sums (group x) (measure x) below, sum_by-cons measure x xs)
