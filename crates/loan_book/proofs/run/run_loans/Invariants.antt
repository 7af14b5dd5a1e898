use Rattle.bb_memory_traits.specs.Object.{IsRun}
use Rattle.loan_book.proofs.run.run_loans.Given as goal
use Rattle.loan_book.specs.Calls.{AreLongEnough, BookStep, NotedStep}
use Rattle.std.proofs.Common.{length, take, vec_capacity, vec_len, ◌≡◌, ◌≤◌}

-- the calls so far are a run, also of what the allocator notes, with chunks that are long enough;
-- there is room for the replies
abbrev pub invariant-loop-call : goal.invariant-loop-call
invariant-loop-call g l =
    let A = g.A.BaseAllocator in
    record {
      run : IsRun (BookStep (A.may_allocate (A.geometry l.fn.book.allocator))) l.fn.book.book
          (take l.call-index l.calls) l.replies.items l.book.book;
      noted : IsRun (NotedStep (A.may_allocate (A.geometry l.fn.book.allocator)) (A.note_after (A.geometry l.fn.book.allocator)))
          (l.fn.book.book, A.note l.fn.book.allocator) (take l.call-index l.calls) l.replies.items
          (l.book.book, A.note l.book.allocator);
      long_enough : AreLongEnough (take l.call-index l.calls) l.replies.items;
      geometry : A.geometry l.book.allocator ≡ A.geometry l.fn.book.allocator;
      told : vec_len l.replies ≡ l.call-index;
      space : length l.calls ≤ vec_capacity l.replies;
    }
