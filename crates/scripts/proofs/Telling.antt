-- Texts one after another, and the replies to lines.
use Rattle.scripts.specs.Scripts.{IsStep, IsTold, Line, Rules}
use Rattle.std.proofs.Common.{Err, List, Ok, OnOk, Result, [], ap, ap₂, get_or, length, refl, subst, sym, take, ℕ, ◌++◌, ◌+◌, ◌<◌, ◌∙◌, ◌∷◌, ◌≡◌}
use Rattle.std.proofs.lemmas.Grind.{flat_map-append}
use Rattle.std.proofs.lemmas.List.{append-nil, append_assoc, take_more}
use Rattle.std.specs.List.{flat_map}

-- the texts of one item more
flat_map_push : {X : Type 0} (text_of : X → List ℕ) (before grown : List X) (item : X) → grown ≡ before ++ item ∷ []
    → flat_map text_of grown ≡ flat_map text_of before ++ text_of item
flat_map_push text_of before grown item longer =
    ap (flat_map text_of) longer ∙ (flat_map-append text_of before (item ∷ [])
    ∙ ap (λ l. flat_map text_of before ++ l) (append-nil (text_of item)))

-- the texts up to an item are written, and then its own
pub texts_more : {X : Type 0} (text_of : X → List ℕ) (old mid new text : List ℕ) (items : List X) (i : ℕ) (item : X)
    → i < length items → item ≡ get_or items i item → mid ≡ old ++ flat_map text_of (take i items) → new ≡ mid ++ text
    → text ≡ text_of item → new ≡ old ++ flat_map text_of (take (i + 1) items)
texts_more text_of old mid new text items i item below at before more is =
    let front : List ℕ = flat_map text_of (take i items) in
    let longer : flat_map text_of (take (i + 1) items) ≡ front ++ text_of item =
    flat_map_push text_of (take i items) (take (i + 1) items) item
    (take_more items i item below ∙ ap (λ x. take i items ++ x ∷ []) (sym at)) in
    rw longer (more ∙ (ap₂ ◌++◌ before is ∙ append_assoc old front (text_of item)))

-- with one line more
pub told_more : {S O C R : Type 0} (rules : Rules S O C R) (start mid end : S) (waiting before left : List C)
    (lines : List (Line C)) (line : Line C) (front added : List ℕ)
    → IsTold rules start waiting lines front mid before → IsStep rules mid before line added end left
    → IsTold rules start waiting (lines ++ line ∷ []) (front ++ added) end left
told_more rules start mid end waiting before left [] line front added (same, kept, none) step = (
  end,
  left,
  added,
  [],
  subst (λ s. IsStep rules s waiting line added end left) same
      (subst (λ w. IsStep rules mid w line added end left) kept step),
  (refl, refl, refl),
  ap (λ t. t ++ added) none ∙ sym (append-nil added),
)
told_more rules start mid end waiting before left (one ∷ lines) line front added (m, later, first, rest, told, more, e) step = (
  m,
  later,
  first,
  rest ++ added,
  told,
  told_more rules m mid end later before left lines line rest added more step,
  ap (λ t. t ++ added) e ∙ append_assoc first rest added,
)

-- a consequence at success
pub on_ok : {A E P Q : Type 0} (result : Result A E) → (P → Q) → OnOk result P → OnOk result Q
on_ok (Ok value) more p = more p
on_ok (Err error) more p = tt
