-- How many buckets a party has in use, by its notes.
use Rattle.bb_memory_file.specs.FileNotes.{Cached, InUse, Note, Undone, Unheld, is_used, used_in}
use Rattle.std.proofs.Common.{Bool, List, Some, [], add_assoc, ap, arith, false, inl, inr, length, refl, subst, suc, sym, take, true, zero, ℕ, ◌+◌, ◌∙◌, ◌∷◌, ◌≡◌, ◌≤◌}
use Rattle.std.proofs.lemmas.List.{length-take-le, take_all}
use Rattle.std.specs.Prelude.{if◌then◌else◌, slice_get, ◌⊎◌}

none_more : (count : ℕ) → count + 0 ≡ 0 + count
none_more count = omega arith

-- one more bucket
used_next : (notes : List Note) (bucket : ℕ) (note : Note) → slice_get notes bucket ≡ Some note →
    used_in (take (suc bucket) notes) ≡ used_in (take bucket notes) + (if is_used note then 1 else 0)
used_next [] bucket note is = absurd (cc)
used_next (x ∷ notes) zero note is = let same : x ≡ note = cc in rw same (none_more (if is_used note then 1 else 0))
used_next (x ∷ notes) (suc bucket) note is =
    ap (λ (n : ℕ). (if is_used x then 1 else 0) + n) (used_next notes bucket note is)
    ∙ sym (add_assoc (if is_used x then 1 else 0) (used_in (take bucket notes)) (if is_used note then 1 else 0))

at_most_one : (used : Bool) → (if used then 1 else 0) ≤ 1
at_most_one true = omega arith
at_most_one false = omega arith

used_most : (notes : List Note) → used_in notes ≤ length notes
used_most [] = omega arith
used_most (x ∷ notes) = let one = at_most_one (is_used x) in let rest = used_most notes in omega (arith, one, rest)

used_by : (note : Note) → (note ≡ InUse) ⊎ (note ≡ Undone) → is_used note ≡ true
used_by Unheld is = elim is [ inl same ↦ absurd (cc) | inr same ↦ absurd (cc) ]
used_by Cached is = elim is [ inl same ↦ absurd (cc) | inr same ↦ absurd (cc) ]
used_by InUse is = refl
used_by Undone is = refl

unused_by : (note : Note) → ¬ (note ≡ InUse) → ¬ (note ≡ Undone) → is_used note ≡ false
unused_by Unheld one other = refl
unused_by Cached one other = refl
unused_by InUse one other = absurd (one refl)
unused_by Undone one other = absurd (other refl)

module _ (notes : List Note) (bucket used : ℕ) (counted : used ≡ used_in (take bucket notes)) where
  -- fewer buckets are in use than are counted
  pub counted_most : bucket ≤ length notes → used ≤ bucket
  counted_most within =
      let most = used_most (take bucket notes) in
      let long = length-take-le bucket notes within in omega (arith, most, long, counted)

  as_next : (next : ℕ) → next ≡ used_in (take (suc bucket) notes) → next ≡ used_in (take (bucket + 1) notes)
  as_next next is =
      let same : suc bucket ≡ bucket + 1 = omega arith in subst (λ (n : ℕ). next ≡ used_in (take n notes)) same is

  -- a bucket in use is counted
  pub counts_used : (note : Note) (next : ℕ) → slice_get notes bucket ≡ Some note → (note ≡ InUse) ⊎ (note ≡ Undone) →
      next ≡ used + 1 → next ≡ used_in (take (bucket + 1) notes)
  counts_used note next is in_use more =
      let step = used_next notes bucket note is in
      let one : ◌≡◌ {A = ℕ} (if is_used note then 1 else 0) 1 = rw (used_by note in_use) refl in
      as_next next (omega (arith, step, one, more, counted))

  -- another bucket isn't
  pub counts_unused : (note : Note) (next : ℕ) → slice_get notes bucket ≡ Some note → ¬ (note ≡ InUse) → ¬ (note ≡ Undone) →
      next ≡ used → next ≡ used_in (take (bucket + 1) notes)
  counts_unused note next is one other same =
      let step = used_next notes bucket note is in
      let none : ◌≡◌ {A = ℕ} (if is_used note then 1 else 0) 0 = rw (unused_by note one other) refl in
      as_next next (omega (arith, step, none, same, counted))

  -- all are counted
  pub counted_all : length notes ≤ bucket → used ≡ used_in notes
  counted_all past = counted ∙ ap used_in (take_all bucket notes past)
