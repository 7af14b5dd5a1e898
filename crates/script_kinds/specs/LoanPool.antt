-- Scripts that loan samples from a pool.
use Rattle.bb_memory_owned.specs.Pool.{CountedPool, StandsFor}
use Rattle.bb_memory_traits.specs.Object.{IsRun}
use Rattle.bb_memory_traits.specs.PoolObject.{MayAllocate}
use Rattle.loan_book.specs.Book.{LoanBook, chunks_out}
use Rattle.loan_book.specs.Calls.{BookStep}
use Rattle.loan_book.specs.declared.error.LoanError.{LoanError}
use Rattle.loan_book.specs.declared.error.LoanError.TheVariants as refused
use Rattle.loan_book.specs.declared.run.LoanCall.{LoanCall}
use Rattle.loan_book.specs.declared.run.LoanCall.TheVariants.{GiveBack, IsOut, Loan, Publish}
use Rattle.loan_book.specs.declared.run.LoanReply.{LoanReply}
use Rattle.loan_book.specs.declared.run.LoanReply.TheVariants as reply
use Rattle.script_kinds.specs.Allocators.{BeginsPool, IsPoolPlan, pool_numbers, refusal_name}
use Rattle.script_kinds.specs.declared.pool.PoolPlan.{PoolPlan}
use Rattle.scripts.specs.Scripts.{Rules}
use Rattle.scripts.specs.Words.{Words, name_line, words, words_then}
use Rattle.scripts.specs.declared.words.Numbers.TheVariants.{One, Three, Two}
use Rattle.std.specs.Prelude.{Contains, List, [], codes, false, true, ℕ, ◌<◌, ◌^◌, ◌≡◌}

-- a command of a script: a number of readers fits into 32 bits
abbrev pub IsCall : LoanCall → Type 0
IsCall (Publish id readers) = readers < 2 ^ 32
IsCall _ = Unit {0}

-- the words of a call's line
abbrev pub call_words : LoanCall → Words
call_words (Loan size) = words (codes "loan") (One size)
call_words (Publish id readers) = words (codes "publish") (Two id readers)
call_words (GiveBack id) = words (codes "back") (One id)
call_words (IsOut id) = words (codes "out") (One id)

-- the name of a refusal, as a reply's line has it; for a refusal of the pool it is the pool's own
abbrev pub loan_refusal_name : LoanError → List ℕ
loan_refusal_name refused.Size = codes "Size"
loan_refusal_name refused.IdsExhausted = codes "IdsExhausted"
loan_refusal_name refused.Memory = codes "Memory"
loan_refusal_name (refused.Allocation error) = refusal_name error
loan_refusal_name refused.UnknownSample = codes "UnknownSample"
loan_refusal_name refused.AlreadyPublished = codes "AlreadyPublished"
loan_refusal_name refused.NoReaders = codes "NoReaders"

-- the line of a reply
abbrev pub loan_reply_line : LoanReply → List ℕ
loan_reply_line (reply.Loaned id chunk) = words_then (codes "loan") (Three id chunk.place chunk.len) (codes "\n")
loan_reply_line reply.Published = name_line (codes "published")
loan_reply_line reply.Returned = name_line (codes "returned")
loan_reply_line reply.Kept = name_line (codes "kept")
loan_reply_line (reply.Out true) = name_line (codes "yes")
loan_reply_line (reply.Out false) = name_line (codes "no")
loan_reply_line (reply.Refused error) = name_line (loan_refusal_name error)

-- The replies are a run of a book over the pool object of the pool's geometry, and none says that
-- memory for a record ran out. The pool stands for exactly the chunks of the samples that are in
-- use.
pub record LoansRun (old : LoanBook CountedPool) (calls : List LoanCall)
    (replies : List LoanReply) (new : LoanBook CountedPool) : Type 0 where
  pub run : IsRun (BookStep (MayAllocate old.allocator.pool.geometry)) old.book calls replies new.book
  pub remembered : ¬ Contains replies (reply.Refused refused.Memory)
  pub geometry : new.allocator.pool.geometry ≡ old.allocator.pool.geometry
  pub stands : StandsFor new.allocator.pool (chunks_out new.book)

-- a fresh pool by the plan, and a book that has loaned nothing
pub record BeginsLoans (plan : PoolPlan) (loans : LoanBook CountedPool) : Type 0 where
  pub pool : BeginsPool plan loans.allocator
  pub book : loans.book ≡ record { loaned = 0; out = [] }

-- scripts that loan samples from a pool, `loan-pool START SIZE BUCKET ALIGN`
abbrev pub loan_pool_rules : Rules (LoanBook CountedPool) PoolPlan LoanCall LoanReply
loan_pool_rules = record {
  name = codes "loan-pool";
  is_header = IsPoolPlan;
  header_numbers = pool_numbers;
  is_command = IsCall;
  command_words = call_words;
  can_show = false;
  starts = BeginsLoans;
  runs = LoansRun;
  reply_text = loan_reply_line;
  state_text = λ loans. [];
}
