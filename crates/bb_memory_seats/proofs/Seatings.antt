-- How parties are spread over the views of seats: each in one, while seats are split and joined,
-- and while one party steps.
use Rattle.atomic_table.proofs.Lists.{at_set, at_snoc}
use Rattle.bb_memory_lists.proofs.SliceGets.{slice_get-replicate, slice_get-set_other, slice_get-set_same}
use Rattle.bb_memory_seats.specs.Seats.{AreSeated, HaveLogs, Numbered, View, alone, first_of, fresh_from, head_of, numbered, one_if, others_of, seat_of, standing_for, tail_of, times_in, total}
use Rattle.std.proofs.Common.{List, Some, [], ap, arith, eq-eqb, eqb, inl, inr, length, ne_eqb, refl, replicate, set, subst, suc, sym, zero, ℕ, ◌++◌, ◌+◌, ◌-◌, ◌<◌, ◌∙◌, ◌∷◌, ◌≡◌, ◌≢◌, ◌≤◌}
use Rattle.std.proofs.lemmas.Bool.{cases_eq}
use Rattle.std.specs.Prelude.{slice_get, slice_set}
use lib.ListN.{get_elem?}
use mathlib.Core.Option.{some, some-injective, some-ne-none}

-- HOW OFTEN A PARTY IS IN VIEWS

-- a figure of all views, if one of them becomes another, and with one more view
module _ {V : Type 0} (figure : V → ℕ) where
  pub total-set : (views : List V) (seat : ℕ) (old new : V) → get_elem? views seat ≡ some old →
      total figure (set views seat new) + figure old ≡ total figure views + figure new
  total-set [] seat old new at = absurd (some-ne-none old (sym at))
  total-set (view ∷ views) zero old new at = let same = ap figure (some-injective view old at) in omega arith
  total-set (view ∷ views) (suc seat) old new at = let rest = total-set views seat old new at in omega arith

  pub total-push : (views : List V) (view : V) → total figure (views ++ view ∷ []) ≡ total figure views + figure view
  total-push [] view = omega arith
  total-push (first ∷ views) view = let rest = total-push views view in omega arith

  -- the figure of one view is at most the total, and so is that of two views
  pub total-at : (views : List V) (seat : ℕ) (view : V) → get_elem? views seat ≡ some view → figure view ≤ total figure views
  total-at [] seat view at = absurd (some-ne-none view (sym at))
  total-at (first ∷ views) zero view at = let same = ap figure (some-injective first view at) in omega arith
  total-at (first ∷ views) (suc seat) view at = let rest = total-at views seat view at in omega arith

  total-two : (views : List V) (seat other : ℕ) (view there : V) → seat ≢ other →
      get_elem? views seat ≡ some view → get_elem? views other ≡ some there → figure view + figure there ≤ total figure views
  total-two [] seat other view there apart at at_other = absurd (some-ne-none view (sym at))
  total-two (first ∷ views) zero zero view there apart at at_other = absurd (apart refl)
  total-two (first ∷ views) zero (suc other) view there apart at at_other =
      let same = ap figure (some-injective first view at) in let rest = total-at views other there at_other in omega arith
  total-two (first ∷ views) (suc seat) zero view there apart at at_other =
      let same = ap figure (some-injective first there at_other) in let rest = total-at views seat view at in omega arith
  total-two (first ∷ views) (suc seat) (suc other) view there apart at at_other =
      let rest = total-two views seat other view there (λ same. apart (ap suc same)) at at_other in omega arith

abbrev standing : {S E : Type 0} → ℕ → View S E → ℕ
standing number view = times_in number view.parties

times_in-append : {E : Type 0} (number : ℕ) (xs ys : List (Numbered E)) →
    times_in number (xs ++ ys) ≡ times_in number xs + times_in number ys
times_in-append number [] ys = omega arith
times_in-append number (x ∷ xs) ys = let rest = times_in-append number xs ys in omega arith

-- the test of two numbers counts as one if they are the same
pub one_same : (number other : ℕ) → number ≡ other → one_if (eqb number other) ≡ 1
one_same number other same = ap one_if (eq-eqb number other same)

pub one_apart : (number other : ℕ) → number ≢ other → one_if (eqb number other) ≡ 0
one_apart number other apart = ap one_if (ne_eqb number other apart)

times_in-own : {E : Type 0} (number : ℕ) (log : List E) → times_in number (numbered number log ∷ []) ≡ 1
times_in-own number log = let one = one_same number number refl in omega arith

-- two parties that are each once in a list are two
pub two_parties : {E : Type 0} (one other : Numbered E) (parties : List (Numbered E)) →
    times_in one.number (one ∷ other ∷ parties) ≤ 1 → one.number ≢ other.number
two_parties one other parties most same = grind arith

-- LOGS

-- a change of another party's log changes nothing for the parties of a view
others_keep : {E : Type 0} (made : ℕ) (logs : List (List E)) (log : List E) (number : ℕ) (parties : List (Numbered E)) →
    times_in number parties ≡ 0 → HaveLogs made logs parties → HaveLogs made (slice_set logs number log) parties
others_keep made logs log number [] none_of have = tt
others_keep made logs log number (party ∷ parties) none_of have =
    elim (cases_eq party.number number) [
      | inl same ↦ let one = one_same party.number number same in absurd (omega arith)
      | inr other ↦
          let none_here = one_apart party.number number other in (
            have.0,
            slice_get-set_other logs number party.number log other ∙ have.1,
            others_keep made logs log number parties (omega arith) have.2,
          )
    ]

have-append : {E : Type 0} (made : ℕ) (logs : List (List E)) (xs ys : List (Numbered E)) →
    HaveLogs made logs xs → HaveLogs made logs ys →
    HaveLogs made logs (xs ++ ys)
have-append made logs [] ys first second = second
have-append made logs (x ∷ xs) ys first second = (first.0, first.1, have-append made logs xs ys first.2 second)

pub have-parts : {E : Type 0} (made : ℕ) (logs : List (List E)) (parties : List (Numbered E)) → HaveLogs made logs parties →
    HaveLogs made logs (head_of parties) × HaveLogs made logs (tail_of parties)
have-parts made logs [] have = (tt, tt)
have-parts made logs (party ∷ parties) have = ((have.0, have.1, tt), have.2)

pub times_in-parts : {E : Type 0} (number : ℕ) (parties : List (Numbered E)) →
    times_in number (head_of parties) + times_in number (tail_of parties) ≡ times_in number parties
times_in-parts number [] = refl
times_in-parts number (party ∷ parties) = omega arith

-- ONE STEP

-- some seat of a table whose parties are seated
module _ {S E : Type 0} (made : ℕ) (logs : List (List E)) (views : List (View S E)) (seat : ℕ) where
  abbrev Known : View S E → Type 0
  Known view = HaveLogs made logs view.parties

  -- the log of the one party of a seat becomes another, whatever is detached there, before and
  -- after
  pub seated_with : (scene : S) (number : ℕ) (log new : List E) (before after : List ℕ) →
      AreSeated made logs views → get_elem? views seat ≡ some (seat_of scene (numbered number log ∷ []) before) →
      AreSeated made (slice_set logs number new) (set views seat (seat_of scene (numbered number new ∷ []) after))
  seated_with scene number log new before after seated at =
      let old : View S E = seat_of scene (numbered number log ∷ []) before in
      let then : View S E = seat_of scene (numbered number new ∷ []) after in
      let mine = seated.known seat old at in record {
        known = λ other found there. elim (at_set views seat other then found there) [
          | inl here ↦
              subst (λ (v : View S E). HaveLogs made (slice_set logs number new) v.parties) here.1
              (mine.0, slice_get-set_same logs number new log mine.1, tt)
          | inr elsewhere ↦
              let two = total-two (standing number) views other seat found old elsewhere.0 elsewhere.1 at in
              let one = times_in-own number log in
              let most = seated.once number mine.0 in
              others_keep made logs new number found.parties (omega arith) (seated.known other found elsewhere.1)
        ];
        once = λ party below.
            let placed = total-set (standing party) views seat old then at in
            let one = seated.once party below in omega arith;
      }

  -- the same for the only party of a seat
  pub seated_step : (scene : S) (number : ℕ) (log new : List E) →
      AreSeated made logs views → get_elem? views seat ≡ some (alone scene number log) →
      AreSeated made (slice_set logs number new) (set views seat (alone scene number new))
  seated_step scene number log new = seated_with scene number log new [] []

  -- SPLITS AND JOINS

  -- if a view is set whose parties have their logs, the parties of each view have theirs
  set_known : (new : View S E) → AreSeated made logs views → Known new → (other : ℕ) (found : View S E) →
      get_elem? (set views seat new) other ≡ some found → Known found
  set_known new seated is other found there = grind (arith, at_set)

  -- a view is split in two if each party goes to one of the two
  pub seated_split : (view left right : View S E) →
      ((number : ℕ) → times_in number left.parties + times_in number right.parties ≡ times_in number view.parties) →
      (Known view → Known left × Known right) → AreSeated made logs views → get_elem? views seat ≡ some view →
      AreSeated made logs (set views seat left ++ right ∷ [])
  seated_split view left right count parts seated at = grind (arith, at_snoc, set_known, total-push, total-set)

  pub seated_others : (view : View S E) → AreSeated made logs views → get_elem? views seat ≡ some view →
      AreSeated made logs (set views seat (others_of view) ++ first_of view ∷ [])
  seated_others view = seated_split view (others_of view) (first_of view)
      (λ number. let parts = times_in-parts number view.parties in omega arith)
      (λ have. let parts = have-parts made logs view.parties have in (parts.1, parts.0))

  -- two views are joined: one gets all parties of the two, and the other has none
  pub seated_joined : (view : View S E) (other : ℕ) (guest : View S E) (scene none : S) (items : List ℕ) →
      let both = seat_of scene (guest.parties ++ view.parties) items in
      AreSeated made logs views → get_elem? views seat ≡ some view → other ≢ seat →
      get_elem? (set views seat both) other ≡ some guest →
      AreSeated made logs (set (set views seat both) other (standing_for none []))
  seated_joined view other guest scene none items seated at apart there =
      grind (arith, at_set, have-append, set_known, total-set, times_in-append)

  -- a view becomes another with the same parties
  pub seated_again : (view : View S E) (scene : S) → AreSeated made logs views → get_elem? views seat ≡ some view →
      AreSeated made logs (set views seat (standing_for scene view.parties))
  seated_again view scene seated at = grind (arith, set_known, total-set)

  -- no party is twice in one view
  pub once_in : (view : View S E) → AreSeated made logs views → get_elem? views seat ≡ some view → (number : ℕ) →
      number < made → times_in number view.parties ≤ 1
  once_in view seated at number below =
      let within = total-at (standing number) views seat view at in
      let one = seated.once number below in omega arith

-- one more view, which stands for no party
pub seated_entered : {S E : Type 0} (made : ℕ) (logs : List (List E)) (views : List (View S E)) (view : View S E) →
    HaveLogs made logs view.parties → ((number : ℕ) → times_in number view.parties ≡ 0) → AreSeated made logs views →
    AreSeated made logs (views ++ view ∷ [])
seated_entered {S = S} {E = E} made logs views view have none seated = grind (arith, at_snoc, total-push)

-- THE OPENING

fresh_have : (E : Type 0) (made number count : ℕ) → number + count ≤ made →
    HaveLogs {E = E} made (replicate made []) (fresh_from number count)
fresh_have E made number zero within = tt
fresh_have E made number (suc count) within = (
  omega arith,
  slice_get-replicate made number [] (omega arith),
  fresh_have E made (number + 1) count (omega arith),
)

fresh_below : (E : Type 0) (number from count : ℕ) → number < from → times_in {E = E} number (fresh_from from count) ≡ 0
fresh_below E number from zero below = refl
fresh_below E number from (suc count) below =
    let none_here = one_apart from number (λ same. omega arith) in
    let rest = fresh_below E number (from + 1) count (omega arith) in omega arith

fresh_once : (E : Type 0) (number from count : ℕ) → from ≤ number → number < from + count →
    times_in {E = E} number (fresh_from from count) ≡ 1
fresh_once E number from zero low high = absurd (omega arith)
fresh_once E number from (suc count) low high =
    elim (cases_eq from number) [
      | inl same ↦
          let here = one_same from number same in
          let rest = fresh_below E number (from + 1) count (omega arith) in omega arith
      | inr apart ↦
          let other = one_apart from number apart in
          let rest = fresh_once E number (from + 1) count (omega arith) (omega arith) in omega arith
    ]

-- all parties are in the first seat
pub seated_opening : {S : Type 0} (E : Type 0) (made : ℕ) (scene : S) →
    AreSeated {S = S} {E = E} made (replicate made []) (standing_for scene (fresh_from 0 made) ∷ [])
seated_opening {S = S} E made scene = grind (arith, fresh_once, fresh_have)

-- DEALING

-- the next party is first, followed by those after it
pub fresh_more : {E : Type 0} (number count : ℕ) → number < count →
    fresh_from {E = E} number (count - number) ≡ numbered number [] ∷ fresh_from (number + 1) (count - (number + 1))
fresh_more number count below = let is : count - number ≡ suc (count - (number + 1)) = omega arith in ap (fresh_from number) is

-- a split seat is replaced by its remainder, with one more seat
pub given_more : {A : Type 0} (f : ℕ → A) (xs : List A) (x : A) →
    ((k : ℕ) → k < length xs → slice_get xs k ≡ Some (f k)) → x ≡ f (length xs) →
    (k : ℕ) → k < length xs + 1 → slice_get (xs ++ x ∷ []) k ≡ Some (f k)
given_more f [] x old is zero below = ap Some is
given_more f [] x old is (suc k) below = absurd (omega arith)
given_more f (y ∷ ys) x old is zero below = old zero (omega arith)
given_more f (y ∷ ys) x old is (suc k) below =
    given_more (λ j. f (suc j)) ys x (λ j less. old (suc j) (omega arith)) is k (omega arith)
