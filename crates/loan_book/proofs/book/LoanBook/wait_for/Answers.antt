use Rattle.loan_book.proofs.Books.{IsLoanBook-set}
use Rattle.loan_book.proofs.book.LoanBook.wait_for.Goals as goal
use Rattle.std.proofs.Common.{arith, length, refl, rules, ◌<◌}
use Rattle.std.proofs.lemmas.Option.{get_or_from_slice_get, slice_get_read}

pub invariant_of-self : goal.invariant_of-self
invariant_of-self g c =
    let samples = c.self.inside.out.items in
    let read = c.index_mut.result.now in
    let within : c.args.position < length samples = rw (← c.self.view_is) at c.requires.there in
    let at = slice_get_read samples (length samples) c.args.position read refl within c.index_mut.ensures.value in
    IsLoanBook-set g.A.BaseAllocator.stands_for c.self.inside.allocator c.self.inside.next samples c.args.position read
    c.args.returns at c.requires.some c.self.invariant

pub returns-clause-book : goal.returns-clause-book
returns-clause-book g c = grind (arith, get_or_from_slice_get)

pub returns-clause-stands : goal.returns-clause-stands
returns-clause-stands g c = record { stands = (invariant_of-self g c).stands; geometry = search rules }
