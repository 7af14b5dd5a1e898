-- The change that a call makes of a book, and what each change keeps.
use Rattle.bb_memory_traits.specs.Chunk.{Chunk}
use Rattle.loan_book.proofs.Books.{IsBook-push, IsBook-remove, IsBook-set}
use Rattle.loan_book.specs.Book.{Book, IsAt, IsBook, IsOut, Sample, returns_to_come}
use Rattle.loan_book.specs.Calls.{Answers, BookStep, LoanCall, LoanReply, id_of, with_returns, with_sample, without}
use Rattle.loan_book.specs.declared.error.LoanError.TheVariants.{Allocation, AlreadyPublished, IdsExhausted, Memory, NoReaders, Size, UnknownSample}
use Rattle.loan_book.specs.declared.run.LoanCall.TheVariants as call
use Rattle.loan_book.specs.declared.run.LoanReply.TheVariants as reply
use Rattle.std.proofs.Common.{None, arith, refl, subst, sym, ℕ, ◌-◌, ◌<◌, ◌≡◌}
use Rattle.std.proofs.lemmas.Option.{slice_get_within}

-- a call that gives back a sample that is in use
abbrev pub Returns : Book → LoanCall → Type 0
Returns old (call.GiveBack id) = IsOut old id
Returns old other = ⊥

-- the call changes the book in one of these ways, if it changes it
pub data Change (old : Book) : LoanCall → LoanReply → Book → Type 0 where
  no_change : (call : LoanCall) (reply : LoanReply) → id_of reply ≡ None → ¬ Returns old call → Change old call reply old
  one_loan : (size id : ℕ) (chunk : Chunk) → id ≡ old.loaned →
      Change old (call.Loan size) (reply.Loaned id chunk) (with_sample old chunk)
  one_publish : (id readers i : ℕ) (sample : Sample) → IsAt old id i sample → sample.returns ≡ None → 0 < readers →
      Change old (call.Publish id readers) reply.Published (with_returns old i sample readers)
  one_less : (id i : ℕ) (sample : Sample) → IsAt old id i sample → 1 < returns_to_come sample.returns →
      Change old (call.GiveBack id) reply.Kept (with_returns old i sample (returns_to_come sample.returns - 1))
  last_one : (id i : ℕ) (sample : Sample) → IsAt old id i sample → returns_to_come sample.returns ≡ 1 →
      Change old (call.GiveBack id) reply.Returned (without old i)

module _ {old new : Book} {made : LoanCall} {told : LoanReply} where
  changed : {next : Book} → new ≡ next → Change old made told next → Change old made told new
  changed same change = subst (Change old made told) (sym same) change

  nothing : id_of told ≡ None → ¬ Returns old made → new ≡ old → Change old made told new
  nothing none returns same = changed same (no_change made told none returns)

pub change_of : (may : Answers) (old new : Book) (made : LoanCall) (told : LoanReply) → BookStep may old made told new →
    Change old made told new
change_of may old new (call.Loan size) (reply.Loaned id chunk) (fits, given, numbered, same) =
    changed same (one_loan size id chunk numbered)
change_of may old new (call.Loan size) (reply.Refused Size) (large, same) = nothing refl (λ no. no) same
change_of may old new (call.Loan size) (reply.Refused IdsExhausted) (fits, used, same) = nothing refl (λ no. no) same
change_of may old new (call.Loan size) (reply.Refused Memory) (fits, left, same) = nothing refl (λ no. no) same
change_of may old new (call.Loan size) (reply.Refused (Allocation error)) (fits, told, same) = nothing refl (λ no. no) same
change_of may old new (call.Publish id readers) reply.Published (i, sample, at, unpublished, some, same) =
    changed same (one_publish id readers i sample at unpublished some)
change_of may old new (call.Publish id readers) (reply.Refused UnknownSample) (unknown, same) = nothing refl (λ no. no) same
change_of may old new (call.Publish id readers) (reply.Refused AlreadyPublished) (is, same) = nothing refl (λ no. no) same
change_of may old new (call.Publish id readers) (reply.Refused NoReaders) (there, none, same) = nothing refl (λ no. no) same
change_of may old new (call.GiveBack id) reply.Returned (i, sample, at, last, same) = changed same (last_one id i sample at last)
change_of may old new (call.GiveBack id) reply.Kept (i, sample, at, more, same) = changed same (one_less id i sample at more)
change_of may old new (call.GiveBack id) (reply.Refused UnknownSample) (unknown, same) = nothing refl unknown same
change_of may old new (call.IsOut id) (reply.Out answer) (tells, same) = nothing refl (λ no. no) same
change_of may old new made told none = absurd none

change-sound : (old : Book) {new : Book} {made : LoanCall} {told : LoanReply} → Change old made told new → IsBook old → IsBook new
change-sound old (no_change made told no_id none) is = is
change-sound old (one_loan size id chunk numbered) is = IsBook-push old chunk is
change-sound old (one_publish id readers i sample at unpublished some) is = IsBook-set old i sample readers at.at some is
change-sound old (one_less id i sample at more) is =
    IsBook-set old i sample (returns_to_come sample.returns - 1) at.at (omega (arith, more)) is
change-sound old (last_one id i sample at last) is = IsBook-remove old i (slice_get_within old.out i sample at.at) is

-- each call keeps a book a book
pub step-sound : (may : Answers) (old new : Book) (made : LoanCall) (told : LoanReply) → IsBook old →
    BookStep may old made told new → IsBook new
step-sound may old new made told is step = change-sound old (change_of may old new made told step) is
