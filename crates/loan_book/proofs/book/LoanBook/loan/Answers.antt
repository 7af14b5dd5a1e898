use Rattle.bb_memory_traits.proofs.Layouts.{layout-plain}
use Rattle.bb_memory_traits.proofs.LeastPlaces.{least_place-unique}
use Rattle.bb_memory_traits.specs.Chunk.{Chunk}
use Rattle.bb_memory_traits.specs.LeastPlace.{least_place}
use Rattle.loan_book.proofs.Books.{IsLoanBook-loaned, next_loaned}
use Rattle.loan_book.proofs.book.LoanBook.loan.Goals as goal
use Rattle.loan_book.specs.Book.{LoanError, chunks_of, loaned_before}
use Rattle.loan_book.specs.declared.error.LoanError.TheVariants.{IdsExhausted, Size}
use Rattle.std.proofs.Common.{Err, None, Option, Result, Some, arith, refl, subst, sym, ℕ, ◌<◌, ◌^◌, ◌≡◌, ◌≤◌}
use Rattle.std.proofs.lemmas.Bool.{cases_lt, false≢true}
use Rattle.std.specs.Align.{IsLayout}
use Rattle.std.specs.Prelude.{◌↔◌}

-- every number is a multiple of 1
least_place-of_one : (size : ℕ) → size ≡ least_place size 1
least_place-of_one size = least_place-unique size 1 size (omega arith)
    (record { multiple = (size, omega arith); above = omega arith; least = λ k below. omega (arith, below) })

-- a size below 2 ^ 63 is one that a layout of alignment 1 has
too_large : (size : ℕ) → ¬ IsLayout size 1 → 2 ^ 63 ≤ size
too_large size refused = grind (arith, cases_lt, layout-plain, least_place-of_one)

small : (size : ℕ) → IsLayout size 1 → size < 2 ^ 63
small size layout = subst (λ p. p < 2 ^ 63) (sym (least_place-of_one size)) ((layout-plain size 1).0 layout).1

neither : {P Q : Type 0} → ¬ P → ¬ Q → P ↔ Q
neither not_left not_right = (λ left. absurd (not_left left), λ right. absurd (not_right right))

abbrev Answer : Type 0
Answer = Result (ℕ × Chunk) LoanError

-- an answer after the first two tests
abbrev IsLater : Answer → Type 0
IsLater (Err Size) = ⊥
IsLater (Err IdsExhausted) = ⊥
IsLater answer = Unit {0}

size≢ids : ¬ (◌≡◌ {A = Answer} (Err Size) (Err IdsExhausted))
size≢ids same = cc

not_over : {a b : ℕ} → a < b → ¬ (b ≤ a)
not_over below above = omega (arith, below, above)

exhausted : (next : Option ℕ) → next ≡ None → 2 ^ 64 ≤ loaned_before next
exhausted None is = omega arith
exhausted (Some id) is = cc

pub returns-in_default : goal.returns-in_default
returns-in_default g c =
    let above = too_large c.args.size (λ layout. false≢true (c.in_default.ensures.accepted.1 layout)) in
    rw (← c.self.view_is) record {
      answer = (above, refl);
      too_large = (λ same. above, λ size. refl);
      ids_exhausted = neither (λ same. size≢ids same) (λ (below, used). not_over below above);
      stands = record { stands = c.self.invariant.stands; geometry = refl };
      sound = g.met.A.BaseAllocator.sound c.self.inside.allocator (chunks_of c.self.inside.out.items) c.self.invariant.stands;
      long_enough = tt;
      kept = λ live stands. stands;
      unasked = λ own. refl;
      asked_once = tt;
      refused_once = λ asked. absurd asked;
    }

pub returns-in_default-next : goal.returns-in_default-next
returns-in_default-next g c =
    let below = small c.args.size (c.in-Ok.ensures.accepted.0 refl) in
    let used = exhausted c.self.inside.next c.in_default-next.is in
    rw (← c.self.view_is) record {
      answer = (below, used, refl);
      too_large = neither (λ same. size≢ids (sym same)) (not_over below);
      ids_exhausted = (λ same. (below, used), λ both. refl);
      stands = record { stands = c.self.invariant.stands; geometry = refl };
      sound = g.met.A.BaseAllocator.sound c.self.inside.allocator (chunks_of c.self.inside.out.items) c.self.invariant.stands;
      long_enough = tt;
      kept = λ live stands. stands;
      unasked = λ own. refl;
      asked_once = tt;
      refused_once = λ asked. absurd asked;
    }

pub returns-then-is_err : goal.returns-then-is_err
returns-then-is_err g c =
    let below = small c.args.size (c.in-Ok.ensures.accepted.0 refl) in
    let left : loaned_before c.self.inside.next < 2 ^ 64 =
    rw c.in-Some.is (c.self.invariant.next_fits c.in-Some.id c.in-Some.is) in
    rw (← c.self.view_is, c.reserve.ensures.items) record {
      answer = (below, left, refl);
      too_large = neither (λ same. subst IsLater same tt) (not_over below);
      ids_exhausted = neither (λ same. subst IsLater same tt) (λ (small, used). not_over left used);
      stands = record { stands = c.self.invariant.stands; geometry = refl };
      sound = g.met.A.BaseAllocator.sound c.self.inside.allocator (chunks_of c.self.inside.out.items) c.self.invariant.stands;
      long_enough = tt;
      kept = λ live stands. stands;
      unasked = λ own. refl;
      asked_once = tt;
      refused_once = λ asked. absurd asked;
    }

pub invariant_of-self-in-Ok-allocate : goal.invariant_of-self-in-Ok-allocate
invariant_of-self-in-Ok-allocate g c =
    IsLoanBook-loaned _ _ _ _ _ _ _ _ _ c.in-Some.is c.checked_add-self-inside.ensures
    (rw c.reserve.ensures.items at c.push_back_reserved.ensures.items) c.self.invariant
    (c.in-Ok-allocate.ensures.appended _ c.self.invariant.stands)

pub returns-in-Ok-allocate : goal.returns-in-Ok-allocate
returns-in-Ok-allocate g c =
    let out = c.self.inside.out.items in
    let told = c.in-Ok-allocate.ensures in
    let (its_size, its_align) = c.in-Ok.ensures.value in
    let below = small c.args.size (c.in-Ok.ensures.accepted.0 refl) in
    let within = c.self.invariant.next_fits c.in-Some.id c.in-Some.is in
    let one_more = next_loaned c.in-Some.id c.checked_add-self-inside.result within c.checked_add-self-inside.ensures in
    let loaned : c.in-Some.id ≡ loaned_before c.self.inside.next = rw c.in-Some.is refl in
    let is = invariant_of-self-in-Ok-allocate g c in
    let sound = g.met.A.BaseAllocator.sound c.allocate.new.self (chunks_of c.push_back_reserved.new.self.items) is.stands in
    rw (← c.self.view_is) record {
      answer = rw (← loaned, one_more, c.push_back_reserved.ensures.items, c.reserve.ensures.items)
          (within, (c.in-Ok.layout, its_size, its_align, told.answer (chunks_of out) c.self.invariant.stands), refl, refl);
      too_large = neither (λ same. subst IsLater same tt) (not_over below);
      ids_exhausted = neither (λ same. subst IsLater same tt) (λ (small, used). not_over within (rw (← loaned) at used));
      stands = record { stands = is.stands; geometry = told.geometry };
      sound = rw told.geometry at sound;
      long_enough = rw its_size at told.long_enough;
      kept = tt;
      unasked = tt;
      asked_once = record { layout = c.in-Ok.layout; many = its_size; align = its_align; noted = told.note };
      refused_once = tt;
    }

pub returns-in-Err : goal.returns-in-Err
returns-in-Err g c =
    let out = c.self.inside.out.items in
    let told = c.in-Err.ensures in
    let (its_size, its_align) = c.in-Ok.ensures.value in
    let below = small c.args.size (c.in-Ok.ensures.accepted.0 refl) in
    let left : loaned_before c.self.inside.next < 2 ^ 64 =
    rw c.in-Some.is (c.self.invariant.next_fits c.in-Some.id c.in-Some.is) in
    let stands = told.kept (chunks_of out) c.self.invariant.stands in
    rw (← c.self.view_is, c.reserve.ensures.items) record {
      answer = (left, (c.in-Ok.layout, its_size, its_align, told.answer (chunks_of out) c.self.invariant.stands), refl);
      too_large = neither (λ same. subst IsLater same tt) (not_over below);
      ids_exhausted = neither (λ same. subst IsLater same tt) (λ (small, used). not_over left used);
      stands = record { stands = stands; geometry = told.geometry };
      sound = rw told.geometry at (g.met.A.BaseAllocator.sound c.allocate.new.self (chunks_of out) stands);
      long_enough = tt;
      kept = told.kept;
      unasked = λ own. absurd (own tt);
      asked_once = tt;
      refused_once = λ asked. record { layout = c.in-Ok.layout; many = its_size; align = its_align; noted = told.note };
    }
