-- A listing of the numbers that are open, after one isn't open any more, or is open again.
use Rattle.bb_memory_index_set.specs.IndexSets.{IsListing}
use Rattle.std.proofs.Common.{List, ap, arith, eq-eqb, eqb, get_or, if◌then◌else◌, inl, inr, length, map, subst, sym, ℕ, ◌+◌, ◌-◌, ◌<◌, ◌∙◌, ◌≡◌, ◌≢◌, ◌≤◌}
use Rattle.std.proofs.lemmas.Bool.{cases_eq, eqb-true, ne_eqb}
use Rattle.std.proofs.lemmas.List.{get_or_default}
use Rattle.std.proofs.lemmas.List.FromFn.{get_or-map-range_with_len, length-map-range_with_len}
use Rattle.std.proofs.lemmas.Map.Keys.{IsDistinct-from_apart}
use Rattle.std.proofs.lemmas.Map.Steps.{length-le_from_distinct_below}
use Rattle.std.proofs.lemmas.Map.Views.{Contains-from_any}
use Rattle.std.specs.List.{range_with_len}

-- numbers below n, each once, are at most n
few : (xs : List ℕ) (n : ℕ) → ((k : ℕ) → k < length xs → get_or xs k 0 < n) →
    ((i k : ℕ) → i < k → k < length xs → get_or xs i 0 ≢ get_or xs k 0) → length xs ≤ n
few xs n below once =
    length-le_from_distinct_below xs n
    (IsDistinct-from_apart eqb xs (λ i k d before h.
    ne_eqb (get_or xs i d) (get_or xs k d)
    (λ same. once i k before h
    (get_or_default xs i 0 d (omega arith) ∙ same ∙ get_or_default xs k d 0 h))))
    (λ q any.
    let at = Contains-from_any eqb-true q xs any in
    let value : get_or xs at.0 0 ≡ q = get_or_default xs at.0 0 q at.1 ∙ at.2 in
    omega (arith, below at.0 at.1, value))

-- numbers below n, each once, are fewer than n if another number below n isn't one of them
pub few_more : (named : ℕ → ℕ) (count n at : ℕ) → ((k : ℕ) → k < count → named k < n) →
    ((i k : ℕ) → i < k → k < count → named i ≢ named k) → at < n → ((k : ℕ) → k < count → named k ≢ at) → count < n
few_more named count n at below once within apart =
    let more : ℕ → ℕ = λ k. if eqb k count then at else named k in
    let xs = map more (range_with_len 0 (count + 1)) in
    let len : length xs ≡ count + 1 = length-map-range_with_len more 0 (count + 1) in
    let read : (k : ℕ) → k < count + 1 → get_or xs k 0 ≡ more k =
    λ k h. get_or-map-range_with_len more 0 (count + 1) k k 0 h (omega arith) in
    let last : (k : ℕ) → k ≡ count → get_or xs k 0 ≡ at =
    λ k e. read k (omega (arith, e)) ∙ ap (λ b. if b then at else named k) (eq-eqb k count e) in
    let low : (k : ℕ) → k < count → get_or xs k 0 ≡ named k =
    λ k h. read k (omega (arith, h)) ∙ ap (λ b. if b then at else named k) (ne_eqb k count (omega (arith, h))) in
    let fits : length xs ≤ n = few xs n
    (λ k h. elim (cases_eq k count) [
      | inl e ↦ rw (last k e) within
      | inr other ↦ rw (low k (omega (arith, h, len, other))) (below k (omega (arith, h, len, other)))
    ])
    (λ i k before h. elim (cases_eq k count) [
      | inl e ↦ rw (last k e, low i (omega (arith, before, e))) (apart i (omega (arith, before, e)))
      | inr other ↦
          rw (low i (omega (arith, before, h, len)), low k (omega (arith, h, len, other)))
          (once i k before (omega (arith, h, len, other)))
    ]) in
    omega (arith, fits, len)

-- if a number isn't open, the listed ones are fewer than all
pub room_left : (bound : ℕ) (Open : ℕ → Type 0) (named : ℕ → ℕ) (open_count at : ℕ) → IsListing bound Open named open_count →
    at < bound →
    (Open at → ⊥) → open_count < bound
room_left bound Open named open_count at is within full =
    few_more named open_count bound at is.below is.once within (λ k h e. full (subst Open e (is.each k h)))

-- One number changes, and the others stay. `named` lists `open_count` before, and `now` lists those
-- after.
module _ (bound : ℕ) (Open Now : ℕ → Type 0) (named now : ℕ → ℕ) (open_count at : ℕ) (is : IsListing bound Open named open_count)
    (others : (other : ℕ) → other ≢ at → (Open other → Now other) × (Now other → Open other)) where
  -- the number that was listed last isn't open any more
  pub filled : 0 < open_count → named (open_count - 1) ≡ at → (Now at → ⊥) → ((k : ℕ) → k < open_count - 1 → now k ≡ named k) →
      IsListing bound Now now (open_count - 1)
  filled some last full same = grind arith

  -- a number that was open still is
  pub still : Open at → Now at → IsListing bound Now named open_count
  still was_open is_open = grind arith

  -- a number that wasn't open is, and is listed after the others
  pub opened : at < bound → (Open at → ⊥) → Now at → now open_count ≡ at → ((k : ℕ) → k < open_count → now k ≡ named k) →
      IsListing bound Now now (open_count + 1)
  opened within full is_open last same =
      let apart : (k : ℕ) → k < open_count → named k ≢ at = λ k h e. full (subst Open e (is.each k h)) in
      record {
        fits = omega (arith, room_left bound Open named open_count at is within full);
        below = λ k h. elim (cases_eq k open_count) [
          | inl e ↦ rw (e, last) within
          | inr other ↦ rw (same k (omega (arith, h, other))) (is.below k (omega (arith, h, other)))
        ];
        each = λ k h. elim (cases_eq k open_count) [
          | inl e ↦ rw (e, last) is_open
          | inr other ↦
              let before : k < open_count = omega (arith, h, other) in
              rw (same k before) ((others (named k) (apart k before)).0 (is.each k before))
        ];
        once = λ i k before h. elim (cases_eq k open_count) [
          | inl e ↦ rw (e, last, same i (omega (arith, before, e))) (apart i (omega (arith, before, e)))
          | inr other ↦
              rw (same i (omega (arith, before, h)), same k (omega (arith, h, other)))
              (is.once i k before (omega (arith, h, other)))
        ];
        all = λ a inside still_open. elim (cases_eq a at) [
          | inl e ↦ (open_count, omega arith, last ∙ sym e)
          | inr other ↦
              let old = is.all a inside ((others a other).1 still_open) in
              (old.0, omega (arith, old.1), same old.0 old.1 ∙ old.2)
        ];
      }
