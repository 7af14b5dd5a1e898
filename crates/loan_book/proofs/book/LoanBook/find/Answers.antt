use Rattle.loan_book.proofs.Searches.{search-absent, search-found}
use Rattle.loan_book.proofs.book.LoanBook.find.Goals as goal
use Rattle.std.proofs.Common.{length, refl, rules}
use Rattle.std.proofs.lemmas.List.Sorted.{answers_always}
use Rattle.std.proofs.lemmas.Option.{slice_get_read}

-- the closure gives a sample's id

pub returns-in_default-clause-absent : goal.returns-in_default-clause-absent
returns-in_default-clause-absent g c =
    let by_id = c.in_default.ensures.position (λ sample. sample.id)
    (answers_always _ _ _ (λ f a r g called. search rules)) in
    rw (← c.self.view_is) (search-absent _ c.args.id c.in_default.field-0 c.self.invariant.book by_id)

pub returns-clause-found : goal.returns-clause-found
returns-clause-found g c =
    let samples = c.self.inside.out.items in
    let sample = c.index.result.now in
    let by_id = c.in-Ok.ensures.position (λ sample. sample.id) (answers_always _ _ _ (λ f a r g called. search rules)) in
    let at = slice_get_read samples (length samples) c.in-Ok.position sample refl (search rules) c.index.ensures in
    rw (← c.self.view_is) (sample, search-found _ c.args.id c.in-Ok.position sample at by_id, refl)
