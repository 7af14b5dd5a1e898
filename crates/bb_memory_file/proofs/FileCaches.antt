-- The list of the buckets that a party caches, and its notes.
use Rattle.bb_memory_file.specs.FileNotes.{AreCached, Cached, InUse, Note, Undone, Unheld}
use Rattle.bb_memory_lists.proofs.SliceGets.{slice_get-replicated, slice_get-set, slice_get-set_other, slice_get-set_same}
use Rattle.std.proofs.Common.{List, Some, [], ap, arith, inl, inr, length, refl, subst, sym, ℕ, ◌++◌, ◌∙◌, ◌∷◌, ◌≡◌, ◌≢◌}
use Rattle.std.proofs.lemmas.List.{get_or_append_left, get_or_default, get_or_push, length_push}
use Rattle.std.proofs.lemmas.List.Elements.{Contains-append_left, Contains-push, Contains-push_cases}
use Rattle.std.proofs.lemmas.List.Quantifiers.{all_pairs_push}
use Rattle.std.specs.Prelude.{Contains, replicate, slice_get, slice_set}

same_some : {X : Type 0} (one other : X) → Some one ≡ Some other → one ≡ other
same_some one other same = cc

-- no other note is that of a cached bucket
pub in_use_apart : InUse ≢ Cached
in_use_apart same = absurd (cc)

pub undone_apart : Undone ≢ Cached
undone_apart same = absurd (cc)

pub unheld_apart : Unheld ≢ Cached
unheld_apart same = absurd (cc)

-- a bucket with another note isn't cached
pub uncached : (notes : List Note) (cached : List ℕ) (bucket : ℕ) (note : Note) → AreCached notes cached →
    slice_get notes bucket ≡ Some note → note ≢ Cached → ¬ Contains cached bucket
uncached notes cached bucket note are was apart at = apart (same_some note Cached (sym was ∙ are.noted bucket at))

-- another bucket gets another note
pub cached_while : (notes : List Note) (cached : List ℕ) (bucket : ℕ) (before note : Note) → AreCached notes cached →
    slice_get notes bucket ≡ Some before → before ≢ Cached → note ≢ Cached → AreCached (slice_set notes bucket note) cached
cached_while notes cached bucket before note are was apart other_note = record {
  differ = are.differ;
  noted = λ other at. slice_get-set_other notes bucket other note
      (λ same. uncached notes cached bucket before are was apart (subst (λ (n : ℕ). Contains cached n) same at))
      ∙ are.noted other at;
  all = λ other is. elim (slice_get-set notes bucket other note Cached is) [
    | inl old ↦ are.all other old
    | inr new ↦ absurd (other_note new.1)
  ];
}

-- one more cached bucket
pub cached_more : (notes : List Note) (cached : List ℕ) (bucket : ℕ) (before : Note) → AreCached notes cached →
    slice_get notes bucket ≡ Some before → before ≢ Cached → AreCached (slice_set notes bucket Cached) (cached ++ bucket ∷ [])
cached_more notes cached bucket before are was apart =
    let not_in = uncached notes cached bucket before are was apart in record {
      differ = all_pairs_push (λ (one other : ℕ). one ≢ other) cached bucket are.differ
          (λ k d below same. not_in (k, below, get_or_default cached k bucket d below ∙ same));
      noted = λ other at. elim (Contains-push_cases cached bucket other at) [
        | inl among ↦ slice_get-set_other notes bucket other Cached
            (λ same. not_in (subst (λ (n : ℕ). Contains cached n) same among)) ∙ are.noted other among
        | inr same ↦ ap (slice_get (slice_set notes bucket Cached)) (sym same) ∙ slice_get-set_same notes bucket Cached before was
      ];
      all = λ other is. elim (slice_get-set notes bucket other Cached Cached is) [
        | inl old ↦ Contains-append_left cached (bucket ∷ []) other (are.all other old)
        | inr new ↦ subst (λ (n : ℕ). Contains (cached ++ bucket ∷ []) n) (sym new.0) (Contains-push cached bucket)
      ];
    }

-- the last is cached
pub last_cached : (notes : List Note) (cached before : List ℕ) (last : ℕ) → AreCached notes cached → cached ≡ before ++ last ∷ [] →
    slice_get notes last ≡ Some Cached
last_cached notes cached before last are is =
    are.noted last (subst (λ (xs : List ℕ). Contains xs last) (sym is) (Contains-push before last))

-- one cached bucket less, the last
pub cached_less : (notes : List Note) (cached before : List ℕ) (last : ℕ) (note : Note) → AreCached notes cached →
    cached ≡ before ++ last ∷ [] → note ≢ Cached → AreCached (slice_set notes last note) before
cached_less notes cached before last note are is apart =
    let whole = subst (λ (xs : List ℕ). AreCached notes xs) is are in
    let long = length_push before last in
    let last_apart : ¬ Contains before last = λ at. whole.differ at.0 (length before) last at.1 (omega arith)
    (get_or_append_left before (last ∷ []) last at.0 at.1 ∙ at.2 ∙ sym (get_or_push before last last (length before) refl)) in
    record {
      differ = λ i j d lt within same. whole.differ i j d lt (omega arith)
          (get_or_append_left before (last ∷ []) d i (omega arith) ∙ same
          ∙ sym (get_or_append_left before (last ∷ []) d j within));
      noted = λ other at. slice_get-set_other notes last other note
          (λ same. last_apart (subst (λ (n : ℕ). Contains before n) same at))
          ∙ whole.noted other (Contains-append_left before (last ∷ []) other at);
      all = λ other there. elim (slice_get-set notes last other note Cached there) [
        | inl old ↦ elim (Contains-push_cases before last other (whole.all other old)) [
          | inl among ↦ among
          | inr same ↦ absurd (end_of other note same (sym there) apart)
        ]
        | inr new ↦ absurd (apart new.1)
      ];
    }
  where
    end_of : (other : ℕ) (note' : Note) → last ≡ other → Some Cached ≡ slice_get (slice_set notes last note) other →
        note ≢ Cached → ⊥
    end_of other note' same there apart' = apart' (same_some note Cached
        (sym (slice_get-set_same notes last note Cached (last_cached notes cached before last are is))
        ∙ ap (slice_get (slice_set notes last note)) same ∙ sym there))

-- a bucket gets a note while none is cached
pub cached_still_none : (notes : List Note) (cached : List ℕ) (bucket : ℕ) (note : Note) → AreCached notes cached → cached ≡ [] →
    note ≢ Cached → AreCached (slice_set notes bucket note) cached
cached_still_none notes cached bucket note are none apart =
    subst (λ (xs : List ℕ). AreCached (slice_set notes bucket note) xs) (sym none) record {
      differ = λ i j d lt within. absurd (omega arith);
      noted = λ other at. let low = at.1 in absurd (omega arith);
      all = λ other is. elim (slice_get-set notes bucket other note Cached is) [
        | inl old ↦ subst (λ (xs : List ℕ). Contains xs other) none (are.all other old)
        | inr new ↦ absurd (apart new.1)
      ];
    }

-- none is cached
pub cached_none : (size : ℕ) → AreCached (replicate size Unheld) []
cached_none size = record {
  differ = λ i j d lt within. absurd (omega arith);
  noted = λ bucket at. let low = at.1 in absurd (omega arith);
  all = λ bucket is. absurd (unheld_apart (slice_get-replicated size bucket Unheld Cached is));
}
