-- Items by their positions in a list, also after a removal; the first position of an item that
-- passes a test.
use Rattle.bb_memory_lists.proofs.SliceGets.{slice_get-last}
use Rattle.std.proofs.Common.{Bool, IsSome, List, None, Some, [], ap, arith, cond, false, get_or, is_some, length, not, refl, subst, suc, true, zero, ℕ, ◌++◌, ◌+◌, ◌<◌, ◌∷◌, ◌≡◌, ◌≢◌}
use Rattle.std.proofs.lemmas.Bool.{lt-ltb}
use Rattle.std.proofs.lemmas.Option.{get_or_from_slice_get, slice_get-get_or, slice_get_within}
use Rattle.std.specs.List.{position_or_len}
use Rattle.std.specs.Prelude.{All, AllPairs, position, remove, slice_get}

-- A FACT OF EACH ELEMENT, BY ITS POSITION

pub All-from_positions : {X : Type 0} (P : X → Type 0) (xs : List X) →
    ((i : ℕ) (x : X) → slice_get xs i ≡ Some x → P x) → All P xs
All-from_positions P xs each = λ k d within. each k (get_or xs k d) (slice_get-get_or xs k d within)

pub All-at : {X : Type 0} (P : X → Type 0) (xs : List X) → All P xs → (i : ℕ) (x : X) → slice_get xs i ≡ Some x → P x
All-at P xs all i x at = subst P (get_or_from_slice_get xs i x x at) (all i x (slice_get_within xs i x at))

pub AllPairs-from_positions : {X : Type 0} (R : X → X → Type 0) (xs : List X) →
    ((i j : ℕ) (x y : X) → i < j → slice_get xs i ≡ Some x → slice_get xs j ≡ Some y → R x y) → AllPairs R xs
AllPairs-from_positions R xs each = λ i j d before within.
    each i j (get_or xs i d) (get_or xs j d) before (slice_get-get_or xs i d (omega arith)) (slice_get-get_or xs j d within)

pub AllPairs-at : {X : Type 0} (R : X → X → Type 0) (xs : List X) → AllPairs R xs → (i j : ℕ) (x y : X) → i < j →
    slice_get xs i ≡ Some x → slice_get xs j ≡ Some y → R x y
AllPairs-at R xs all i j x y before at_i at_j =
    let first : get_or xs i x ≡ x = get_or_from_slice_get xs i x x at_i in
    let second : get_or xs j x ≡ y = get_or_from_slice_get xs j y x at_j in
    subst (λ y'. R x y') second
    (subst (λ x'. R x' (get_or xs j x)) first (all i j x before (slice_get_within xs j y at_j)))

-- A REMOVAL

-- an item of the list after a removal was in the list before, at some position
pub slice_get-removed : {X : Type 0} (xs : List X) (n i : ℕ) (x : X) → slice_get (remove xs n) i ≡ Some x →
    (j : ℕ) × (j ≢ n) × (slice_get xs j ≡ Some x)
slice_get-removed [] zero i x at = absurd (cc)
slice_get-removed [] (suc n) i x at = absurd (cc)
slice_get-removed (y ∷ ys) zero i x at = (suc i, (λ same. omega arith), at)
slice_get-removed (y ∷ ys) (suc n) zero x at = (zero, (λ same. omega arith), at)
slice_get-removed (y ∷ ys) (suc n) (suc i) x at =
    let was = slice_get-removed ys n i x at in
    (suc was.0, (λ same. was.1 (omega arith)), was.2)

-- an item at another position is still in the list
pub slice_get-unremoved : {X : Type 0} (xs : List X) (n j : ℕ) (x : X) → j ≢ n → slice_get xs j ≡ Some x →
    (i : ℕ) × (slice_get (remove xs n) i ≡ Some x)
slice_get-unremoved [] n j x apart at = absurd (cc)
slice_get-unremoved (y ∷ ys) zero zero x apart at = absurd (apart refl)
slice_get-unremoved (y ∷ ys) zero (suc j) x apart at = (j, at)
slice_get-unremoved (y ∷ ys) (suc n) zero x apart at = (zero, at)
slice_get-unremoved (y ∷ ys) (suc n) (suc j) x apart at =
    let still = slice_get-unremoved ys n j x (λ same. apart (ap suc same)) at in
    (suc still.0, still.1)

-- THE FIRST POSITION THAT PASSES A TEST

one_more : (passes : Bool) (before items : ℕ) → before < items → cond (not passes) (1 + before) 0 < suc items
one_more true before items lt = omega arith
one_more false before items lt = omega arith

module _ {X : Type 0} (test : X → Bool) where
  position-before : (items : List X) (index : ℕ) (item : X) → slice_get items index ≡ Some item → test item ≡ true →
      position_or_len test items < length items
  position-before [] index item at passes = absurd (cc)
  position-before (first ∷ items) zero item at passes =
      let here : test first ≡ true = cc in
      omega (arith, ap (λ b. cond (not b) (1 + position_or_len test items) 0) here)
  position-before (first ∷ items) (suc index) item at passes =
      one_more (test first) (position_or_len test items) (length items) (position-before items index item at passes)

  pub position-there : (items : List X) (index : ℕ) (item : X) → slice_get items index ≡ Some item → test item ≡ true →
      IsSome (position test items)
  position-there items index item at passes =
      ap (λ b. is_some (cond b (Some (position_or_len test items)) None))
      (lt-ltb (position_or_len test items) (length items) (position-before items index item at passes))

  pub position-last : (items : List X) (item : X) → test item ≡ true → IsSome (position test (items ++ item ∷ []))
  position-last items item passes = position-there (items ++ item ∷ []) (length items) item (slice_get-last items item) passes
