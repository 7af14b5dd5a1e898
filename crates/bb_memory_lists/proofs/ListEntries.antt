-- Items of a list: after others, in a part that is kept, and by a number of their own.
use Rattle.std.proofs.Common.{Bool, List, Some, [], ap, arith, inl, inr, refl, subst, suc, sym, true, zero, ℕ, ◌<◌, ◌∙◌, ◌∷◌, ◌≡◌, ◌≤◌}
use Rattle.std.proofs.lemmas.Bool.{cases_lt, cond_both}
use Rattle.std.proofs.lemmas.List.Elements.{All-contains}
use Rattle.std.proofs.lemmas.Option.{same_Some}
use Rattle.std.specs.Prelude.{All, Any, Contains, filter, if◌then◌else◌, map, slice_get}

module _ {X : Type 0} where
  pub contains-first : (x y : X) (xs : List X) → x ≡ y → Contains (x ∷ xs) y
  contains-first x y xs same = (zero, omega arith, same)

  pub contains-behind : (x y : X) (xs : List X) → Contains xs y → Contains (x ∷ xs) y
  contains-behind x y xs has = (suc has.0, omega (arith, has.1), has.2)

  -- an item with a position is at that position
  pub contains_at : (xs : List X) (i : ℕ) (x : X) → slice_get xs i ≡ Some x → Contains xs x
  contains_at [] i x at = absurd (cc)
  contains_at (y ∷ xs) zero x at = contains-first y x xs (same_Some y x at)
  contains_at (y ∷ xs) (suc i) x at = contains-behind y x xs (contains_at xs i x at)

  pub contains-none : (x : X) → Contains [] x → ⊥
  contains-none x has = absurd (omega (arith, has.1))

  -- a property of one item of the list holds for some item of the list
  pub any_contained : (P : X → Type 0) (xs : List X) (x : X) → Contains xs x → P x → Any P xs
  any_contained P xs x has holds = (has.0, x, has.1, has.2, holds)

module _ {X : Type 0} (test : X → Bool) where
  -- an item that passes the test is kept
  pub contains-filter : (xs : List X) (y : X) → Contains xs y → test y ≡ true → Contains (filter test xs) y
  contains-filter [] y has passes = absurd (contains-none y has)
  contains-filter (x ∷ xs) y (zero, below, same) passes =
      subst (λ (passed : Bool). Contains (if passed then x ∷ filter test xs else filter test xs) y) (sym (ap test same ∙ passes))
      (contains-first x y (filter test xs) same)
  contains-filter (x ∷ xs) y (suc k, below, same) passes =
      let kept = contains-filter xs y (k, omega (arith, below), same) passes in
      cond_both (test x) (x ∷ filter test xs) (filter test xs) (λ l. Contains l y)
      (λ is. contains-behind x y (filter test xs) kept) (λ is. kept)

module _ {X : Type 0} (figure : X → ℕ) where
  -- an item of the list has this figure
  pub record HasOne (xs : List X) (n : ℕ) : Type 0 where
    pub one : X
    pub there : Contains xs one
    pub its : figure one ≡ n

  pub one_of_figure : (xs : List X) (n : ℕ) → Contains (map figure xs) n → HasOne xs n
  one_of_figure [] n has = absurd (contains-none n has)
  one_of_figure (x ∷ xs) n (zero, below, same) = record { one = x; there = contains-first x x xs refl; its = same }
  one_of_figure (x ∷ xs) n (suc k, below, same) =
      let rest = one_of_figure xs n (k, omega (arith, below), same) in
      record { one = rest.one; there = contains-behind x rest.one xs rest.there; its = rest.its }

-- An entry of a list, each part of which one number keeps, is in the log of the one that has its
-- number.
module _ {X E : Type 0} (figure : X → ℕ) (log : X → List E) (by : ℕ → E → Bool) (list : List E) (made : ℕ) (xs : List X)
    (numbers : (n : ℕ) → n < made → Contains (map figure xs) n) (logged : All (λ x. filter (by (figure x)) list ≡ log x) xs)
    (nobody : (n : ℕ) → made ≤ n → filter (by n) list ≡ []) where
  pub stands_in_log : (entry : E) (n : ℕ) → Contains list entry → by n entry ≡ true → Any (λ x. Contains (log x) entry) xs
  stands_in_log entry n there its =
      let kept = contains-filter (by n) list entry there its in
      elim (cases_lt n made) [
        | inl below ↦
            let one = one_of_figure figure xs n (numbers n below) in
            let own = All-contains (λ (x : X). filter (by (figure x)) list ≡ log x) xs one.one logged one.there in
            any_contained (λ (x : X). Contains (log x) entry) xs one.one one.there
            (subst (λ (l : List E). Contains l entry) (ap (λ (m : ℕ). filter (by m) list) (sym one.its) ∙ own) kept)
        | inr past ↦
            absurd (contains-none entry (subst (λ (l : List E). Contains l entry) (nobody n (omega (arith, past))) kept))
      ]
