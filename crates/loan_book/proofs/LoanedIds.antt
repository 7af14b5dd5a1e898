-- Which ids a run of calls gives, and how many.
use Rattle.bb_memory_traits.specs.Object.{IsRun}
use Rattle.loan_book.proofs.BookLeads.{Change, change_of, no_change, one_loan}
use Rattle.loan_book.specs.Book.{Book}
use Rattle.loan_book.specs.Calls.{Answers, BookStep, LoanCall, LoanReply, id_of, ids_in}
use Rattle.std.proofs.Common.{List, None, Option, Some, [], add-zero, ap, arith, length, refl, subst, suc, sym, ℕ, ◌+◌, ◌∙◌, ◌∷◌, ◌≡◌}
use Rattle.std.proofs.lemmas.List.FromFn.{length-range_with_len}
use Rattle.std.specs.List.{cons_option, range_with_len}

-- a call that gives an id gives the number of loans, and counts one; another leaves the number
abbrev Counts : ℕ → ℕ → Option ℕ → Type 0
Counts loaned next (Some id) = (id ≡ loaned) × (next ≡ loaned + 1)
Counts loaned next None = next ≡ loaned

change-counts : (old : Book) {new : Book} {made : LoanCall} {told : LoanReply} → Change old made told new →
    Counts old.loaned new.loaned (id_of told)
change-counts old (one_loan size id chunk numbered) = (numbered, refl)
change-counts old (no_change made told no_id none) = subst (Counts old.loaned old.loaned) (sym no_id) refl
change-counts old _ = refl

-- these ids count up from the number of loans before, and lead to the number after
abbrev CountUp : ℕ → ℕ → List ℕ → Type 0
CountUp loaned next ids = (n : ℕ) × (next ≡ loaned + n) × (ids ≡ range_with_len loaned n)

count-on : (loaned mid next : ℕ) (given : Option ℕ) (ids : List ℕ) → Counts loaned mid given → CountUp mid next ids →
    CountUp loaned next (cons_option given ids)
count-on loaned mid next None ids same (n, counted, up) =
    (n, counted ∙ ap (λ k. k + n) same, up ∙ ap (λ k. range_with_len k n) same)
count-on loaned mid next (Some id) ids (first, one_more) (n, counted, up) =
    (suc n, omega arith, ap (λ k. k ∷ ids) first ∙ ap (λ rest. loaned ∷ rest) (up ∙ ap (λ k. range_with_len k n) one_more))

count-run : (may_allocate : Answers) (old new : Book) (calls : List LoanCall) (replies : List LoanReply) →
    IsRun (BookStep may_allocate) old calls replies new → CountUp old.loaned new.loaned (ids_in replies)
count-run may_allocate old new [] [] same = (0, ap (λ (b : Book). b.loaned) same ∙ sym (add-zero old.loaned), refl)
count-run may_allocate old new (call ∷ calls) (reply ∷ replies) (mid, step, rest) =
    count-on old.loaned mid.loaned new.loaned (id_of reply) (ids_in replies)
    (change-counts old (change_of may_allocate old mid call reply step))
    (count-run may_allocate mid new calls replies rest)
count-run may_allocate old new [] (reply ∷ replies) none = absurd none
count-run may_allocate old new (call ∷ calls) [] none = absurd none

-- each id that is given counts as one loan, and the ids count up from the number of loans before
pub run-ids : (may_allocate : Answers) (old new : Book) (calls : List LoanCall) (replies : List LoanReply) →
    IsRun (BookStep may_allocate) old calls replies new →
    (new.loaned ≡ old.loaned + length (ids_in replies)) × (ids_in replies ≡ range_with_len old.loaned (length (ids_in replies)))
run-ids may_allocate old new calls replies run = grind (arith, count-run, length-range_with_len)
