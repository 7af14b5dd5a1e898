-- Reads of a list at a position, after a write or a push and in a list of one value.
use Rattle.std.proofs.Common.{IsSome, List, None, Option, Some, [], ap, arith, inl, inr, length, refl, replicate, suc, sym, zero, ℕ, ◌++◌, ◌<◌, ◌∙◌, ◌∷◌, ◌≡◌, ◌≢◌, ◌⊎◌}
use Rattle.std.specs.Prelude.{slice_get, slice_set}

-- after a write, an element is the one that was written, or was there
pub slice_get-set : {X : Type 0} (xs : List X) (i j : ℕ) (v x : X) → slice_get (slice_set xs i v) j ≡ Some x →
    (slice_get xs j ≡ Some x) ⊎ ((j ≡ i) × (v ≡ x))
slice_get-set [] i j v x is = inl is
slice_get-set (y ∷ ys) zero zero v x is = inr (refl, cc)
slice_get-set (y ∷ ys) zero (suc j) v x is = inl is
slice_get-set (y ∷ ys) (suc i) zero v x is = inl is
slice_get-set (y ∷ ys) (suc i) (suc j) v x is =
    elim (slice_get-set ys i j v x is) [ inl old ↦ inl old | inr new ↦ inr (ap suc new.0, new.1) ]

pub slice_get-set_other : {X : Type 0} (xs : List X) (i j : ℕ) (v : X) → j ≢ i → slice_get (slice_set xs i v) j ≡ slice_get xs j
slice_get-set_other [] i j v apart = refl
slice_get-set_other (y ∷ ys) zero zero v apart = absurd (apart refl)
slice_get-set_other (y ∷ ys) zero (suc j) v apart = refl
slice_get-set_other (y ∷ ys) (suc i) zero v apart = refl
slice_get-set_other (y ∷ ys) (suc i) (suc j) v apart = slice_get-set_other ys i j v (λ same. apart (ap suc same))

pub slice_get-set_same : {X : Type 0} (xs : List X) (i : ℕ) (v x : X) → slice_get xs i ≡ Some x →
    slice_get (slice_set xs i v) i ≡ Some v
slice_get-set_same [] i v x is = absurd (cc)
slice_get-set_same (y ∷ ys) zero v x is = refl
slice_get-set_same (y ∷ ys) (suc i) v x is = slice_get-set_same ys i v x is

-- the same two facts, for indices that are equal or not by an equation; and the item that is read
-- at an equal index is the same
pub slice_get-set_apart : {X : Type 0} (xs : List X) (i j : ℕ) (v : X) → i ≢ j → slice_get (slice_set xs i v) j ≡ slice_get xs j
slice_get-set_apart xs i j v apart = slice_get-set_other xs i j v (λ e. apart (sym e))

pub slice_get-same : {X : Type 0} (xs : List X) (i j : ℕ) (found : Option X) → i ≡ j →
    slice_get xs i ≡ found → slice_get xs j ≡ found
slice_get-same xs i j found same there = ap (slice_get xs) (sym same) ∙ there

pub slice_get-set_at : {X : Type 0} (xs : List X) (i j : ℕ) (v old : X) → i ≡ j → slice_get xs i ≡ Some old →
    slice_get (slice_set xs i v) j ≡ Some v
slice_get-set_at xs i j v old same there =
    slice_get-same (slice_set xs i v) i j (Some v) same (slice_get-set_same xs i v old there)

pub slice_get-replicate : {X : Type 0} (n i : ℕ) (x : X) → i < n → slice_get (replicate n x) i ≡ Some x
slice_get-replicate zero i x within = absurd (omega arith)
slice_get-replicate (suc n) zero x within = refl
slice_get-replicate (suc n) (suc i) x within = slice_get-replicate n i x (omega arith)

-- each item of a list of one value is that value
pub slice_get-replicated : {X : Type 0} (n i : ℕ) (x y : X) → slice_get (replicate n x) i ≡ Some y → x ≡ y
slice_get-replicated zero i x y is = absurd (cc)
slice_get-replicated (suc n) zero x y is = cc
slice_get-replicated (suc n) (suc i) x y is = slice_get-replicated n i x y is

-- if the figure of the value is that of no value, the figure is the same at each position of a list
-- of that value
pub replicated-figure : {X Y : Type 0} (figure : Option X → Y) (n i : ℕ) (x : X) → figure (Some x) ≡ figure None →
    figure (slice_get (replicate n x) i) ≡ figure None
replicated-figure figure zero i x same = refl
replicated-figure figure (suc n) zero x same = same
replicated-figure figure (suc n) (suc i) x same = replicated-figure figure n i x same

pub length-set_at : {X : Type 0} (xs : List X) (i : ℕ) (x : X) → length (slice_set xs i x) ≡ length xs
length-set_at [] i x = refl
length-set_at (y ∷ ys) zero x = refl
length-set_at (y ∷ ys) (suc i) x = ap suc (length-set_at ys i x)

-- a place at which a list has something is one of the list
pub slice_get-some : {X : Type 0} (xs : List X) (i : ℕ) → IsSome (slice_get xs i) → i < length xs
slice_get-some [] i some = cc
slice_get-some (y ∷ ys) zero some = omega arith
slice_get-some (y ∷ ys) (suc i) some = omega (arith, slice_get-some ys i some)

-- appending an item keeps the others at their positions, and puts the new one last
pub slice_get-push : {X : Type 0} (xs : List X) (i : ℕ) (x y : X) → slice_get xs i ≡ Some x → slice_get (xs ++ y ∷ []) i ≡ Some x
slice_get-push [] i x y at = absurd (cc)
slice_get-push (z ∷ xs) zero x y at = at
slice_get-push (z ∷ xs) (suc i) x y at = slice_get-push xs i x y at

pub slice_get-last : {X : Type 0} (xs : List X) (y : X) → slice_get (xs ++ y ∷ []) (length xs) ≡ Some y
slice_get-last [] y = refl
slice_get-last (z ∷ xs) y = slice_get-last xs y

-- each item was in the list before, or is the new one
pub slice_get-pushed : {X : Type 0} (xs : List X) (i : ℕ) (x y : X) → slice_get (xs ++ y ∷ []) i ≡ Some x →
    (slice_get xs i ≡ Some x) ⊎ (y ≡ x)
slice_get-pushed [] zero x y at = inr (cc)
slice_get-pushed [] (suc i) x y at = absurd (cc)
slice_get-pushed (z ∷ xs) zero x y at = inl at
slice_get-pushed (z ∷ xs) (suc i) x y at = slice_get-pushed xs i x y at
