-- Lists of which the first or the last items are as they were in another list.
use Rattle.std.proofs.Common.{List, ap, arith, drop, get_or, length, sym, take, ℕ, ◌+◌, ◌<◌, ◌∙◌, ◌∷◌, ◌≡◌}
use Rattle.std.proofs.lemmas.List.{drop_more, get_or-drop, get_or-take}

module _ {X : Type 0} where
  -- an item of the first part, which is as it was
  pub as_it_was : (now was : List X) (at size : ℕ) (item : X) → at < size → take size now ≡ take size was →
      get_or now at item ≡ get_or was at item
  as_it_was now was at size item below same =
      sym (get_or-take size now at item below) ∙ ap (λ (l : List X). get_or l at item) same ∙ get_or-take size was at item below

  -- the first item of the last part, which is as it was
  pub first_as_it_was : (now was : List X) (at : ℕ) (item : X) → drop at now ≡ drop at was →
      get_or now at item ≡ get_or was at item
  first_as_it_was now was at item same =
      let first : at + 0 ≡ at = omega arith in
      let seen = λ (l : List X). get_or-drop at l 0 item ∙ ap (λ (n : ℕ). get_or l n item) first in
      sym (seen now) ∙ ap (λ (l : List X). get_or l 0 item) same ∙ seen was

  -- the items from one on are that item and those from the next on
  pub one_and_rest : (items : List X) (at next : ℕ) (item : X) → next ≡ at + 1 → at < length items →
      get_or items at item ≡ item → drop at items ≡ item ∷ drop next items
  one_and_rest items at next item is below there =
      drop_more items at item below ∙ λ i. there i ∷ drop (sym is i) items
