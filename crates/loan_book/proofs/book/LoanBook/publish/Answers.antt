use Rattle.loan_book.proofs.BookSteps.{own-set}
use Rattle.loan_book.proofs.Books.{positive, published_from, unpublished_from}
use Rattle.loan_book.proofs.OneAnswers.{publish-refusal}
use Rattle.loan_book.proofs.book.LoanBook.publish.Goals as goal
use Rattle.loan_book.specs.Book.{Book, HasReturns}
use Rattle.loan_book.specs.Calls.{Publishes}
use Rattle.loan_book.specs.declared.error.LoanError.TheVariants.{AlreadyPublished, NoReaders, UnknownSample}
use Rattle.std.proofs.Common.{Err, Ok, Some, arith, refl, subst, sym, ◌∙◌}

pub returns-in_default : goal.returns-in_default
returns-in_default g c = grind arith

pub returns-then-is_some : goal.returns-then-is_some
returns-then-is_some g c =
    let book = c.args.self.now.book in
    let (sample, there, is) = c.in-Some.ensures.found in
    let (returns, published) = published_from c.in-Some.returns c.if-is_some.ensures in
    let answer : Publishes book c.args.id c.args.readers (Err AlreadyPublished) book =
    ((returns, (c.in-Some.position, sample, there, is ∙ published)), refl) in
    let refusal = publish-refusal book c.in-Some.ensures.book c.args.id c.args.readers (Err AlreadyPublished) book answer in
    record {
      answer = answer;
      unknown_sample = refusal UnknownSample;
      already_published = refusal AlreadyPublished;
      no_readers = refusal NoReaders;
      stands = rw (← c.self.view_is) record { stands = c.self.invariant.stands; geometry = refl };
      waits = tt;
      same_allocator = refl;
      unchanged = refl;
    }

pub returns-then-readers-eq0 : goal.returns-then-readers-eq0
returns-then-readers-eq0 g c =
    let book = c.args.self.now.book in
    let (sample, there, is) = c.in-Some.ensures.found in
    let none = is ∙ unpublished_from c.in-Some.returns c.if-is_some.ensures in
    let answer : Publishes book c.args.id c.args.readers (Err NoReaders) book =
    ((c.in-Some.position, sample, there, none), c.if-readers-eq0.true, refl) in
    let refusal = publish-refusal book c.in-Some.ensures.book c.args.id c.args.readers (Err NoReaders) book answer in
    record {
      answer = answer;
      unknown_sample = refusal UnknownSample;
      already_published = refusal AlreadyPublished;
      no_readers = refusal NoReaders;
      stands = rw (← c.self.view_is) record { stands = c.self.invariant.stands; geometry = refl };
      waits = tt;
      same_allocator = refl;
      unchanged = refl;
    }

pub returns : goal.returns
returns g c =
    let book = c.args.self.now.book in
    let (sample, there, is) = c.in-Some.ensures.found in
    let none = is ∙ unpublished_from c.in-Some.returns c.if-is_some.ensures in
    let set = c.wait_for.ensures.book sample there.at in
    let new = c.wait_for.new.self.book in
    let answer : Publishes book c.args.id c.args.readers (Ok tt) new =
    (c.in-Some.position, sample, there, none, positive c.args.readers c.if-readers-eq0.false, set) in
    let refusal = publish-refusal book c.in-Some.ensures.book c.args.id c.args.readers (Ok tt) new answer in
    record {
      answer = answer;
      unknown_sample = refusal UnknownSample;
      already_published = refusal AlreadyPublished;
      no_readers = refusal NoReaders;
      stands = c.wait_for.ensures.stands;
      waits = subst (λ (b : Book). HasReturns b c.args.id (Some c.args.readers)) (sym set)
          (own-set book c.args.id c.in-Some.position sample c.args.readers there);
      same_allocator = c.wait_for.ensures.same_allocator;
      unchanged = tt;
    }
