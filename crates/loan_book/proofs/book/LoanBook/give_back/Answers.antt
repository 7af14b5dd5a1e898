use Rattle.loan_book.proofs.BookSteps.{own-set, removed-is-gone}
use Rattle.loan_book.proofs.book.LoanBook.give_back.Goals as goal
use Rattle.loan_book.specs.Book.{Book, IsOut}
use Rattle.std.proofs.Common.{refl, subst, sym, ◌-◌}

pub returns-then-left-gt0-clause-leaves : goal.returns-then-left-gt0-clause-leaves
returns-then-left-gt0-clause-leaves g c =
    let (sample, there, waits) = c.in-Some.ensures.found in
    let left = c.unwrap_or-to_come.result - 1 in
    let set = own-set c.args.self.now.book c.args.id c.in-Some.position sample left there in
    let out = subst (λ (b : Book). IsOut b c.args.id) (sym (c.wait_for.ensures.book sample there.at)) (set.0, set.1, set.2) in
    (λ is. cc, λ gone. absurd (gone out))

pub returns-clause-leaves : goal.returns-clause-leaves
returns-clause-leaves g c =
    let book = c.args.self.now.book in
    let (sample, there, waits) = c.in-Some.ensures.found in
    let gone = removed-is-gone book c.args.id c.in-Some.position sample c.in-Some.ensures.book there in
    (λ left out. gone (subst (λ (b : Book). IsOut b c.args.id) c.take_out.ensures.book out), λ gone_now. refl)
