use Rattle.loan_book.proofs.Books.{IsLoanBook-removed, chunk-at}
use Rattle.loan_book.proofs.book.LoanBook.take_out.Goals as goal
use Rattle.loan_book.specs.Book.{chunks_of}
use Rattle.std.proofs.Common.{length, refl, rules, subst, sym, ℕ, ◌<◌}
use Rattle.std.proofs.lemmas.Option.{slice_get_read}

pub deallocate-requires : goal.deallocate-requires
deallocate-requires g c =
    let samples = c.self.inside.out.items in
    let sample = c.unwrap-sample.result in
    let within : c.args.position < length samples = rw (← c.self.view_is) at c.requires in
    let at = slice_get_read samples (length samples) c.args.position sample refl within
    (rw c.unwrap-sample.ensures at c.remove.ensures.value) in
    subst (λ (place : ℕ). g.A.BaseAllocator.may_release c.self.inside.allocator place) (sym c.place.ensures.value)
    (g.met.A.BaseAllocator.releases c.self.inside.allocator
    (chunks_of samples) c.args.position sample.chunk c.self.invariant.stands (chunk-at samples c.args.position sample at))

pub invariant_of-self : goal.invariant_of-self
invariant_of-self g c =
    let samples = c.self.inside.out.items in
    let sample = c.unwrap-sample.result in
    let within : c.args.position < length samples = rw (← c.self.view_is) at c.requires in
    let at = slice_get_read samples (length samples) c.args.position sample refl within
    (rw c.unwrap-sample.ensures at c.remove.ensures.value) in
    let left = c.deallocate.ensures.released (chunks_of samples) c.args.position sample.chunk c.self.invariant.stands
    (chunk-at samples c.args.position sample at) (sym c.place.ensures.value) in
    IsLoanBook-removed g.A.BaseAllocator.stands_for c.self.inside.allocator c.deallocate.new.self c.self.inside.next samples
    c.remove.new.self.items c.args.position within
    (rw c.unwrap-sample.ensures at c.remove.ensures.items) c.self.invariant (rw g.met.A.Allocator.closes_up at left)

pub returns-clause-stands : goal.returns-clause-stands
returns-clause-stands g c = record { stands = (invariant_of-self g c).stands; geometry = search rules }
