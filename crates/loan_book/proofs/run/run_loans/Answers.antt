use Rattle.bb_memory_traits.proofs.Runs.{IsRun-push}
use Rattle.loan_book.proofs.BookRuns.{run-loaned, run-published, run-returns, run-unpublished}
use Rattle.loan_book.proofs.LoanedIds.{run-ids}
use Rattle.loan_book.proofs.LongLoans.{AreLongEnough-push}
use Rattle.loan_book.proofs.run.run_loans.Goals as goal
use Rattle.std.proofs.Common.{arith, get_or, rules, take, take_all, ◌≡◌}
use Rattle.std.proofs.lemmas.Grind.{common_steps}
use Rattle.std.proofs.lemmas.List.{take_more}

pub loop-call-preserved : goal.loop-call-preserved
loop-call-preserved g c = grind (arith, common_steps, get_or, take_more, IsRun-push, AreLongEnough-push)

pub returns : goal.returns
returns g c =
    let A = g.A.BaseAllocator in
    let may = A.may_allocate (A.geometry c.args.book.now.allocator) in
    let old = c.args.book.now.book in
    let new = c.loop-call.book.book in
    let calls = c.args.calls.now in
    let replies = c.loop-call.replies.items in
    let is = c.law.ensures.book in
    let all : take c.loop-call.call-index calls ≡ calls = take_all c.loop-call.call-index calls (omega arith) in
    let run = rw all at c.loop-call.invariant.run in
    record {
      run = run;
      asked = rw all at c.loop-call.invariant.noted;
      long_enough = rw all at c.loop-call.invariant.long_enough;
      counted = (run-ids may old new calls replies run).0;
      ids = (run-ids may old new calls replies run).1;
      returned = λ id returns waits. run-returns may new id old calls replies returns is waits run;
      unpublished = λ id unpublished none. run-unpublished may new id old calls replies is unpublished none run;
      published = λ i id readers called replied. run-published may new id old calls replies i readers is run called replied;
      loaned = λ i id chunk replied none. run-loaned may new id old calls replies i chunk is run replied none;
      book = search rules;
      stands = search rules;
      sound = search rules;
      geometry = search rules;
      unchanged = search rules;
    }
