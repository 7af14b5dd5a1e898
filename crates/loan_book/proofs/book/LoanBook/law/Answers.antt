use Rattle.loan_book.proofs.book.LoanBook.law.Goals as goal
use Rattle.loan_book.specs.Book.{chunks_of}
use Rattle.std.proofs.Common.{arith}

pub returns-clause-loans_one_book : goal.returns-clause-loans_one_book
returns-clause-loans_one_book g c size answer new next = grind arith

pub returns-clause-sound : goal.returns-clause-sound
returns-clause-sound g c = rw (← c.self.view_is)
    (g.met.A.BaseAllocator.sound c.self.inside.allocator (chunks_of c.self.inside.out.items) c.self.invariant.stands)
