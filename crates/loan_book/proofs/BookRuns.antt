-- One sample that is in use, after a run of calls, and one that a call of the run loans or
-- publishes.
use Rattle.bb_memory_traits.specs.Chunk.{Chunk}
use Rattle.bb_memory_traits.specs.Object.{IsRun}
use Rattle.loan_book.proofs.BookLeads.{Change, change_of, last_one, no_change, one_less, one_loan, one_publish, step-sound}
use Rattle.loan_book.proofs.BookSteps.{HasOrIsGone, one_returns, own-push, own-remove, own-set, push-keeps, remove-keeps, set-keeps}
use Rattle.loan_book.proofs.Books.{sample-waits}
use Rattle.loan_book.specs.Book.{Book, HasReturns, IsAt, IsBook, IsOut, IsUnpublished, returns_to_come}
use Rattle.loan_book.specs.Calls.{Answers, BookStep, LoanCall, LoanReply, is_publish_of, is_return_of, publishes_in, returns_in, with_returns, without}
use Rattle.loan_book.specs.declared.run.LoanCall.TheVariants as call
use Rattle.loan_book.specs.declared.run.LoanReply.TheVariants as reply
use Rattle.std.proofs.Common.{Bool, List, None, Option, Some, [], ap, arith, cond, drop, false, refl, slice_get, subst, suc, sym, true, zero, ℕ, ◌+◌, ◌-◌, ◌<◌, ◌∙◌, ◌∷◌, ◌≡◌, ◌≢◌}
use Rattle.std.proofs.lemmas.Bool.Decides.{nat_tests}
use Rattle.std.proofs.lemmas.List.Sums.{sum_by-cons}
use Rattle.std.specs.Prelude.{◌↔◌}

-- how often a call counts
abbrev once : Bool → ℕ
once counts = cond counts 1 0

-- a published sample that waits for n returns, and is gone once n is 0
abbrev after : ℕ → Option (Option ℕ)
after zero = None
after (suc n) = Some (Some (suc n))

after-some : (n : ℕ) → 0 < n → Some (Some n) ≡ after n
after-some zero some = absurd (omega arith)
after-some (suc n) some = refl

after-published : (n : ℕ) → after n ≢ Some None
after-published zero same = cc
after-published (suc n) same = cc

nothing-waits : (book : Book) (id n : ℕ) → HasOrIsGone book id (after n) → HasOrIsGone book id (after (n - 0))
nothing-waits book id n kept = let none : n ≡ n - 0 = omega arith in subst (λ k. HasOrIsGone book id (after k)) none kept

module _ (old : Book) (is : IsBook old) (id : ℕ) where
  -- a publish of another sample, or of one that isn't unpublished, and a return of another keep
  -- what a sample waits for
  change-keeps : {new : Book} {made : LoanCall} {told : LoanReply} (left : Option (Option ℕ)) → Change old made told new →
      is_return_of id made ≡ false → (is_publish_of id made ≡ true → left ≢ Some None) → HasOrIsGone old id left →
      HasOrIsGone new id left
  change-keeps left (no_change made told no_id none) apart elsewhere kept = kept
  change-keeps left (one_loan size given chunk numbered) apart elsewhere kept = push-keeps old chunk id left kept
  change-keeps left (one_less other i sample at more) apart elsewhere kept =
      set-keeps old id other i sample (returns_to_come sample.returns - 1) left at (grind (arith, nat_tests)) kept
  change-keeps left (last_one other i sample at last) apart elsewhere kept =
      remove-keeps old id other i sample left at (grind (arith, nat_tests)) kept
  change-keeps None (one_publish other readers i sample at unpublished some) apart elsewhere kept =
      set-keeps old id other i sample readers None at
      (λ same. kept.0 (i, sample, record { at = at.at; has_id = at.has_id ∙ same })) kept
  change-keeps (Some returns) (one_publish other readers i sample at fresh some) apart elsewhere kept =
      set-keeps old id other i sample readers (Some returns) at (λ same.
      let there : HasReturns old id None = (i, sample, record { at = at.at; has_id = at.has_id ∙ same }, fresh) in
      elsewhere (grind (arith, nat_tests)) (ap Some (one_returns old id returns None is kept there))) kept

  -- a return of the sample itself, which is in use
  change-own : {new : Book} {made : LoanCall} {told : LoanReply} (returns : Option ℕ) → Change old made told new →
      is_return_of id made ≡ true → HasReturns old id returns → HasOrIsGone new id (after (returns_to_come returns - 1))
  change-own returns (no_change (call.GiveBack other) told no_id none) own has = grind arith
  change-own returns (no_change made told no_id none) own has = cc
  change-own returns (one_loan size given chunk numbered) own has = cc
  change-own returns (one_publish other readers i sample at unpublished some) own has = cc
  change-own returns (one_less other i sample at more) own has =
      let same : other ≡ id = grind (arith, nat_tests) in
      let here = subst (λ k. IsAt old k i sample) same at in
      let left = returns_to_come sample.returns - 1 in
      let come = ap returns_to_come (one_returns old id sample.returns returns is (i, sample, here, refl) has) in
      subst (λ n. HasOrIsGone (with_returns old i sample left) id (after (n - 1))) come
      (subst (HasOrIsGone (with_returns old i sample left) id) (after-some left (omega (arith, more)))
      (own-set old id i sample left here))
  change-own returns (last_one other i sample at last) own has =
      let same : other ≡ id = grind (arith, nat_tests) in
      let here = subst (λ k. IsAt old k i sample) same at in
      let come = ap returns_to_come (one_returns old id sample.returns returns is (i, sample, here, refl) has) in
      subst (λ n. HasOrIsGone (without old i) id (after (n - 1))) (sym last ∙ come) (own-remove old id i sample is here)

  -- a return of a sample that is gone
  change-gone : {new : Book} {made : LoanCall} {told : LoanReply} → Change old made told new →
      is_return_of id made ≡ true → HasOrIsGone old id None → HasOrIsGone new id None
  change-gone (no_change made told no_id none) own gone = gone
  change-gone (one_loan size given chunk numbered) own gone = cc
  change-gone (one_publish other readers i sample at unpublished some) own gone = cc
  change-gone (one_less other i sample at more) own gone =
      let same : other ≡ id = grind (arith, nat_tests) in absurd (gone.0 (i, sample, subst (λ k. IsAt old k i sample) same at))
  change-gone (last_one other i sample at last) own gone =
      let same : other ≡ id = grind (arith, nat_tests) in absurd (gone.0 (i, sample, subst (λ k. IsAt old k i sample) same at))

  -- a published sample waits for one return less after each of its returns
  change-waits : {new : Book} {made : LoanCall} {told : LoanReply} (n : ℕ) (own : Bool) → is_return_of id made ≡ own →
      Change old made told new → HasOrIsGone old id (after n) → HasOrIsGone new id (after (n - once own))
  change-waits {new} n false apart change kept =
      nothing-waits new id n (change-keeps (after n) change apart (λ own. after-published n) kept)
  change-waits zero true own change gone = change-gone change own gone
  change-waits (suc n) true own change has = change-own (Some (suc n)) change own has

module _ (may : Answers) (new : Book) (id : ℕ) where
  run-waits : (old : Book) (calls : List LoanCall) (replies : List LoanReply) (n : ℕ) → IsBook old →
      HasOrIsGone old id (after n) → IsRun (BookStep may) old calls replies new →
      HasOrIsGone new id (after (n - returns_in id calls))
  run-waits old [] [] n is kept same = nothing-waits new id n (subst (λ book. HasOrIsGone book id (after n)) (sym same) kept)
  run-waits old (made ∷ calls) (told ∷ replies) n is kept (mid, step, rest) =
      let one = once (is_return_of id made) in
      let first = change-waits old is id n (is_return_of id made) refl (change_of may old mid made told step) kept in
      let both : (n - one) - returns_in id calls ≡ n - returns_in id (made ∷ calls) =
      omega (arith, sum_by-cons (λ x. once (is_return_of id x)) made calls) in
      subst (λ k. HasOrIsGone new id (after k)) both
      (run-waits mid calls replies (n - one) (step-sound may old mid made told is step) first rest)
  run-waits old [] (told ∷ replies) n is kept none = absurd none
  run-waits old (made ∷ calls) [] n is kept none = absurd none

  out-waits : (n : ℕ) → HasOrIsGone new id (after n) → IsOut new id ↔ (0 < n)
  out-waits zero (gone, used) = (λ out. absurd (gone out), λ some. absurd (omega arith))
  out-waits (suc n) (i, sample, at, waits) = (λ out. omega arith, λ some. (i, sample, at))

  -- a sample that waits for `returns` returns is in use after a run exactly if fewer of its calls
  -- return it
  pub run-returns : (old : Book) (calls : List LoanCall) (replies : List LoanReply) (returns : ℕ) → IsBook old →
      HasReturns old id (Some returns) → IsRun (BookStep may) old calls replies new →
      IsOut new id ↔ (returns_in id calls < returns)
  run-returns old calls replies zero is (i, sample, at, waits) run =
      let some = sample-waits old i sample is at.at in
      let none = ap returns_to_come waits in
      absurd (omega arith)
  run-returns old calls replies (suc n) is waits run =
      let out = out-waits (suc n - returns_in id calls) (run-waits old calls replies (suc n) is waits run) in
      (λ there. let left = out.0 there in omega arith, λ fewer. out.1 (omega arith))

  run-first : (old mid : Book) (made : LoanCall) (calls : List LoanCall) (told : LoanReply) (replies : List LoanReply) →
      IsBook old → IsUnpublished old id → BookStep may old made told mid → IsRun (BookStep may) mid calls replies new →
      publishes_in id (made ∷ calls) ≡ 0 → (publishes_in id calls ≡ 0 → IsUnpublished mid id →
      IsOut new id ↔ (returns_in id calls ≡ 0)) →
      (returned published : Bool) → is_return_of id made ≡ returned → is_publish_of id made ≡ published →
      IsOut new id ↔ (returns_in id (made ∷ calls) ≡ 0)
  run-first old mid made calls told replies is unpublished step rest none further true published own whether =
      let gone = change-own old is id None (change_of may old mid made told step) own unpublished in
      let still = out-waits (0 - returns_in id calls)
      (run-waits mid calls replies 0 (step-sound may old mid made told is step) gone rest) in
      let counted = sum_by-cons (λ x. once (is_return_of id x)) made calls in
      let one : once (is_return_of id made) ≡ 1 = ap once own in
      (λ out. let some = still.0 out in absurd (omega arith), λ nothing. absurd (omega arith))
  run-first old mid made calls told replies is unpublished step rest none further false true other own =
      absurd (omega (arith, sum_by-cons (λ x. once (is_publish_of id x)) made calls, ap once own))
  run-first old mid made calls told replies is unpublished step rest none further false false other another =
      let publishes = sum_by-cons (λ x. once (is_publish_of id x)) made calls in
      let returns = sum_by-cons (λ x. once (is_return_of id x)) made calls in
      let no_return : once (is_return_of id made) ≡ 0 = ap once other in
      let out = further (omega arith) (change-keeps old is id (Some None)
      (change_of may old mid made told step) other (λ publish. absurd (cc)) unpublished) in
      (λ there. let left = out.0 there in omega arith, λ nothing. out.1 (omega arith))

  -- a sample that was never published is in use after a run that doesn't publish it exactly if none
  -- of its calls returns it
  pub run-unpublished : (old : Book) (calls : List LoanCall) (replies : List LoanReply) → IsBook old → IsUnpublished old id →
      publishes_in id calls ≡ 0 → IsRun (BookStep may) old calls replies new → IsOut new id ↔ (returns_in id calls ≡ 0)
  run-unpublished old [] [] is unpublished none same =
      (λ out. refl, λ nothing. subst (λ book. IsOut book id) (sym same) (unpublished.0, unpublished.1, unpublished.2))
  run-unpublished old (made ∷ calls) (told ∷ replies) is unpublished none (mid, step, rest) =
      run-first old mid made calls told replies is unpublished step rest none
      (λ none_left there. run-unpublished mid calls replies (step-sound may old mid made told is step) there none_left rest)
      (is_return_of id made) (is_publish_of id made) refl refl
  run-unpublished old [] (told ∷ replies) is unpublished none other = absurd other
  run-unpublished old (made ∷ calls) [] is unpublished none other = absurd other

  -- The calls after a publish or a loan are a run, too.

  -- the publish at position i of a run
  pub run-published : (old : Book) (calls : List LoanCall) (replies : List LoanReply) (i readers : ℕ) → IsBook old →
      IsRun (BookStep may) old calls replies new →
      slice_get calls i ≡ Some (call.Publish id readers) → slice_get replies i ≡ Some reply.Published →
      IsOut new id ↔ (returns_in id (drop (i + 1) calls) < readers)
  run-published old [] replies i readers is run called replied = absurd (cc)
  run-published old (made ∷ calls) [] i readers is run called replied = absurd run
  run-published old (made ∷ calls) (told ∷ replies) zero readers is (mid, step, rest) called replied =
      let its_call : made ≡ call.Publish id readers = cc in
      let its_reply : told ≡ reply.Published = cc in
      let (position, sample, at, unpublished, some, set) : BookStep may old (call.Publish id readers) reply.Published mid =
      subst (λ (k : LoanReply). BookStep may old (call.Publish id readers) k mid) its_reply
      (subst (λ (k : LoanCall). BookStep may old k told mid) its_call step) in
      run-returns mid calls replies readers (step-sound may old mid made told is step)
      (subst (λ book. HasReturns book id (Some readers)) (sym set) (own-set old id position sample readers at)) rest
  run-published old (made ∷ calls) (told ∷ replies) (suc i) readers is (mid, step, rest) called replied =
      let next : suc i + 1 ≡ suc (i + 1) = omega arith in
      subst (λ k. IsOut new id ↔ (returns_in id (drop k (made ∷ calls)) < readers)) (sym next)
      (run-published mid calls replies i readers (step-sound may old mid made told is step) rest called replied)

  -- a reply that loans is one to a request
  loaned-step : (old mid : Book) (made : LoanCall) (calls : List LoanCall) (replies : List LoanReply) (chunk : Chunk) →
      IsBook mid → BookStep may old made (reply.Loaned id chunk) mid → publishes_in id calls ≡ 0 →
      IsRun (BookStep may) mid calls replies new → IsOut new id ↔ (returns_in id calls ≡ 0)
  loaned-step old mid (call.Loan size) calls replies chunk is (below, given, its_id, pushed) none rest =
      run-unpublished mid calls replies is
      (subst (λ book. IsUnpublished book id) (sym pushed) (own-push old id chunk its_id)) none rest
  loaned-step old mid made calls replies chunk is step none rest = absurd step

  -- the loan at position i of a run
  pub run-loaned : (old : Book) (calls : List LoanCall) (replies : List LoanReply) (i : ℕ) (chunk : Chunk) → IsBook old →
      IsRun (BookStep may) old calls replies new → slice_get replies i ≡ Some (reply.Loaned id chunk) →
      publishes_in id (drop (i + 1) calls) ≡ 0 → IsOut new id ↔ (returns_in id (drop (i + 1) calls) ≡ 0)
  run-loaned old calls [] i chunk is run replied none = absurd (cc)
  run-loaned old [] (told ∷ replies) i chunk is run replied none = absurd run
  run-loaned old (made ∷ calls) (told ∷ replies) zero chunk is (mid, step, rest) replied none =
      let loaned : BookStep may old made (reply.Loaned id chunk) mid =
      subst (λ (k : LoanReply). BookStep may old made k mid) (cc) step in
      loaned-step old mid made calls replies chunk (step-sound may old mid made told is step) loaned none rest
  run-loaned old (made ∷ calls) (told ∷ replies) (suc i) chunk is (mid, step, rest) replied none =
      let next : suc i + 1 ≡ suc (i + 1) = omega arith in
      let none_behind = subst (λ k. publishes_in id (drop k (made ∷ calls)) ≡ 0) next none in
      subst (λ k. IsOut new id ↔ (returns_in id (drop k (made ∷ calls)) ≡ 0)) (sym next)
      (run-loaned mid calls replies i chunk (step-sound may old mid made told is step) rest replied none_behind)
