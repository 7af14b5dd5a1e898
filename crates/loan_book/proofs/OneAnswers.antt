-- Each call has only one answer, or leads to at least one book.
use Rattle.loan_book.proofs.BookSteps.{one_position, one_sample, unpublished-nowhere}
use Rattle.loan_book.specs.Book.{Book, IsAt, IsBook, IsOut, IsPublished, IsUnpublished, LoanError, Sample, returns_to_come}
use Rattle.loan_book.specs.Calls.{GivesBack, Publishes, with_returns, without}
use Rattle.loan_book.specs.declared.error.LoanError.TheVariants.{AlreadyPublished, NoReaders, UnknownSample}
use Rattle.std.proofs.Common.{Bool, Err, Ok, Result, ap, arith, false, refl, subst, sym, true, ℕ, ◌<◌, ◌∙◌, ◌≡◌}
use Rattle.std.specs.Prelude.{◌↔◌}

-- when each answer to a publish comes
abbrev pub PublishCause : Book → ℕ → ℕ → Result (Unit {0}) LoanError → Type 0
PublishCause book id readers (Ok done) = IsUnpublished book id × (0 < readers)
PublishCause book id readers (Err UnknownSample) = ¬ IsOut book id
PublishCause book id readers (Err AlreadyPublished) = IsPublished book id
PublishCause book id readers (Err NoReaders) = IsUnpublished book id × (readers ≡ 0)
PublishCause book id readers answer = ⊥

publish-cause : (old : Book) (id readers : ℕ) (answer : Result (Unit {0}) LoanError) (new : Book) →
    Publishes old id readers answer new → PublishCause old id readers answer
publish-cause old id readers (Ok done) new (i, sample, at, unpublished, some, same) = ((i, sample, at, unpublished), some)
publish-cause old id readers (Err NoReaders) new (unpublished, none, same) = (unpublished, none)
publish-cause old id readers (Err UnknownSample) new step = step.0
publish-cause old id readers (Err AlreadyPublished) new step = step.0
publish-cause old id readers answer new none = absurd none

module _ (book : Book) (is : IsBook book) (id readers : ℕ) where
  published_out : IsPublished book id → IsOut book id
  published_out (returns, (position, sample, at, is)) = (position, sample, at)

  unpublished_out : IsUnpublished book id → IsOut book id
  unpublished_out (position, sample, at, is) = (position, sample, at)

  one-cause : (one other : Result (Unit {0}) LoanError) → PublishCause book id readers one →
      PublishCause book id readers other → one ≡ other
  one-cause (Ok done) (Ok done_too) first second = refl
  one-cause one other first second =
      grind (arith, first, second, published_out, unpublished_out, unpublished-nowhere book id is)

  same-set : (i j returns : ℕ) (sample found : Sample) → IsAt book id i sample → IsAt book id j found →
      with_returns book i sample returns ≡ with_returns book j found returns
  same-set i j returns sample found here there =
      ap (λ k. with_returns book k sample returns) (one_position book id i j sample found is here there)
      ∙ ap (λ s. with_returns book j s returns) (one_sample book id i j sample found is here there)

  publish-one_book : (answer : Result (Unit {0}) LoanError) (new next : Book) →
      Publishes book id readers answer new → Publishes book id readers answer next → new ≡ next
  publish-one_book (Ok done) new next (i, sample, at, unpublished, some, same)
      (j, found, there, unpublished_too, some_too, same_too) =
      same ∙ same-set i j readers sample found at there ∙ sym same_too
  publish-one_book answer new next first second = grind (arith, first, second)

  to_come : (i j : ℕ) (sample found : Sample) → IsAt book id i sample → IsAt book id j found →
      returns_to_come sample.returns ≡ returns_to_come found.returns
  to_come i j sample found here there = ap (λ (s : Sample). returns_to_come s.returns)
      (one_sample book id i j sample found is here there)

  pub give-one : (one other : Result Bool LoanError) (new next : Book) → GivesBack book id one new →
      GivesBack book id other next → (one ≡ other) × (new ≡ next)
  give-one (Ok true) (Ok true) new next (i, sample, at, last, same) (j, found, there, last_too, same_too) =
      (refl, same ∙ ap (λ k. without book k) (one_position book id i j sample found is at there) ∙ sym same_too)
  give-one (Ok true) (Ok false) new next (i, sample, at, last, same) (j, found, there, more, same_too) =
      let come = to_come i j sample found at there in absurd (omega arith)
  give-one (Ok false) (Ok true) new next (i, sample, at, more, same) (j, found, there, last, same_too) =
      let come = to_come i j sample found at there in absurd (omega arith)
  give-one (Ok false) (Ok false) new next (i, sample, at, more, same) (j, found, there, more_too, same_too) =
      grind (arith, to_come, same-set)
  give-one one other new next first second = grind (arith, first, second)

-- each refusal comes exactly if its cause holds
pub publish-refusal : (book : Book) (is : IsBook book) (id readers : ℕ) (answer : Result (Unit {0}) LoanError) (new : Book) →
    Publishes book id readers answer new → (error : LoanError) →
    (answer ≡ Err error) ↔ PublishCause book id readers (Err error)
publish-refusal book is id readers answer new step error =
    let cause = publish-cause book id readers answer new step in (
      λ same. subst (PublishCause book id readers) same cause,
      λ other. one-cause book is id readers answer (Err error) cause other,
    )

pub publish-one : (book : Book) (is : IsBook book) (id readers : ℕ) (one other : Result (Unit {0}) LoanError) (new next : Book) →
    Publishes book id readers one new → Publishes book id readers other next → (one ≡ other) × (new ≡ next)
publish-one book is id readers one other new next first second =
    grind (arith, one-cause, publish-cause, publish-one_book)
