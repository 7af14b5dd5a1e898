-- Loans whose chunks are long enough, after one more call.
use Rattle.bb_memory_traits.specs.Chunk.{Chunk}
use Rattle.loan_book.specs.Calls.{AreLongEnough, LoanCall, LoanReply}
use Rattle.loan_book.specs.declared.run.LoanCall.TheVariants.{Loan}
use Rattle.loan_book.specs.declared.run.LoanReply.TheVariants.{Loaned}
use Rattle.std.proofs.Common.{List, [], arith, length, suc, zero, ℕ, ◌++◌, ◌∷◌, ◌≡◌, ◌≤◌}

pub AreLongEnough-push : (calls : List LoanCall) (replies : List LoanReply) (made : LoanCall) (reply : LoanReply) →
    length calls ≡ length replies → AreLongEnough calls replies →
    ((size id : ℕ) (chunk : Chunk) → made ≡ Loan size → reply ≡ Loaned id chunk → size ≤ chunk.len) →
    AreLongEnough (calls ++ made ∷ []) (replies ++ reply ∷ [])
AreLongEnough-push [] [] made reply same each last zero size id chunk asked given = last size id chunk (cc) (cc)
AreLongEnough-push [] [] made reply same each last (suc i) size id chunk asked given = absurd (cc)
AreLongEnough-push (c ∷ calls) (r ∷ replies) made reply same each last zero size id chunk asked given =
    each zero size id chunk asked given
AreLongEnough-push (c ∷ calls) (r ∷ replies) made reply same each last (suc i) size id chunk asked given =
    AreLongEnough-push calls replies made reply (omega arith) (λ j. each (suc j)) last i size id chunk asked given
AreLongEnough-push [] (r ∷ replies) made reply same each last i size id chunk asked given = absurd (omega arith)
AreLongEnough-push (c ∷ calls) [] made reply same each last i size id chunk asked given = absurd (omega arith)
