-- The answers that a loan book may give to each call, and the book after it. A refusal names the
-- first reason that applies.
use Rattle.bb_memory_traits.specs.Chunk.{Chunk}
use Rattle.bb_memory_traits.specs.declared.allocator.AllocationError.{AllocationError}
use Rattle.bb_memory_traits.specs.declared.layout.Layout.{Layout}
use Rattle.loan_book.specs.Book.{Book, IsAskedOnce, IsAt, IsOut, IsPublished, IsUnpublished, LoanError, Sample, chunks_out, returns_to_come}
use Rattle.loan_book.specs.declared.error.LoanError.TheVariants as refused
pub use Rattle.loan_book.specs.declared.run.LoanCall.{LoanCall}
use Rattle.loan_book.specs.declared.run.LoanCall.TheVariants as call
pub use Rattle.loan_book.specs.declared.run.LoanReply.{LoanReply}
use Rattle.loan_book.specs.declared.run.LoanReply.TheVariants.{Kept, Loaned, Out, Published, Refused, Returned}
use Rattle.std.specs.Prelude.{Bool, Err, IsTrue, List, None, Ok, Option, Result, Some, [], count_by, false, filter_map, remove, slice_get, slice_set, true, ℕ, ◌++◌, ◌+◌, ◌-◌, ◌<◌, ◌==◌, ◌^◌, ◌↔◌, ◌∷◌, ◌≡◌, ◌≤◌}

-- the answers that an allocator may give to a request on a live list
abbrev pub Answers : Type 1
Answers = List Chunk → Layout → Result Chunk AllocationError → Type 0

-- the allocator may give this answer to a request for `n` bytes, at any place, while these samples
-- are in use
abbrev pub MayAnswer : Answers → Book → ℕ → Result Chunk AllocationError → Type 0
MayAnswer may book n answer = (layout : Layout) × (layout.size ≡ n) × (layout.align ≡ 1) × may (chunks_out book) layout answer

-- the book after one more sample was loaned, which isn't published
abbrev pub with_sample : Book → Chunk → Book
with_sample book chunk =
    record { loaned = book.loaned + 1; out = book.out ++ record { id = book.loaned; chunk = chunk; returns = None } ∷ [] }

-- the book in which the sample at a position waits for this number of returns
abbrev pub with_returns : Book → ℕ → Sample → ℕ → Book
with_returns book i sample returns = record book { out = slice_set book.out i (record sample { returns = Some returns }) }

-- the book without the sample at a position
abbrev pub without : Book → ℕ → Book
without book position = record book { out = remove book.out position }

-- `loan(size)`. A layout of alignment 1 has a size below 2 ^ 63. Nothing here says when memory for
-- the sample's record runs out.
abbrev pub Loans : Answers → Book → ℕ → Result (ℕ × Chunk) LoanError → Book → Type 0
Loans may_allocate old size (Ok (id, chunk)) new =
    (old.loaned < 2 ^ 64) × MayAnswer may_allocate old size (Ok chunk) × (id ≡ old.loaned) × (new ≡ with_sample old chunk)
Loans may_allocate old size (Err refused.Size) new = (2 ^ 63 ≤ size) × (new ≡ old)
Loans may_allocate old size (Err refused.IdsExhausted) new = (size < 2 ^ 63) × (2 ^ 64 ≤ old.loaned) × (new ≡ old)
Loans may_allocate old size (Err refused.Memory) new = (size < 2 ^ 63) × (old.loaned < 2 ^ 64) × (new ≡ old)
Loans may_allocate old size (Err (refused.Allocation error)) new =
    (old.loaned < 2 ^ 64) × MayAnswer may_allocate old size (Err error) × (new ≡ old)
Loans may_allocate old size answer new = ⊥

-- `publish(id, readers)`: the sample waits for a return of each reader
abbrev pub Publishes : Book → ℕ → ℕ → Result (Unit {0}) LoanError → Book → Type 0
Publishes old id readers (Ok done) new =
    (position : ℕ) × (sample : Sample) × IsAt old id position sample × (sample.returns ≡ None)
    × (0 < readers) × (new ≡ with_returns old position sample readers)
Publishes old id readers (Err refused.UnknownSample) new = (¬ IsOut old id) × (new ≡ old)
Publishes old id readers (Err refused.AlreadyPublished) new = IsPublished old id × (new ≡ old)
Publishes old id readers (Err refused.NoReaders) new = IsUnpublished old id × (readers ≡ 0) × (new ≡ old)
Publishes old id readers answer new = ⊥

-- `give_back(id)`: true if the sample leaves the book, and false if it waits for further returns
abbrev pub GivesBack : Book → ℕ → Result Bool LoanError → Book → Type 0
GivesBack old id (Ok true) new = (position : ℕ) × (sample : Sample) × IsAt old id position sample
    × (returns_to_come sample.returns ≡ 1) × (new ≡ without old position)
GivesBack old id (Ok false) new =
    (position : ℕ) × (sample : Sample) × IsAt old id position sample × (1 < returns_to_come sample.returns)
    × (new ≡ with_returns old position sample (returns_to_come sample.returns - 1))
GivesBack old id (Err refused.UnknownSample) new = (¬ IsOut old id) × (new ≡ old)
GivesBack old id answer new = ⊥

-- A book over this allocator may give this reply to the call, and becomes `new`.
abbrev pub BookStep : Answers → Book → LoanCall → LoanReply → Book → Type 0
BookStep may_allocate old (call.Loan size) (Loaned id chunk) new = Loans may_allocate old size (Ok (id, chunk)) new
BookStep may_allocate old (call.Loan size) (Refused error) new = Loans may_allocate old size (Err error) new
BookStep may_allocate old (call.Publish id readers) Published new = Publishes old id readers (Ok tt) new
BookStep may_allocate old (call.Publish id readers) (Refused error) new = Publishes old id readers (Err error) new
BookStep may_allocate old (call.GiveBack id) Returned new = GivesBack old id (Ok true) new
BookStep may_allocate old (call.GiveBack id) Kept new = GivesBack old id (Ok false) new
BookStep may_allocate old (call.GiveBack id) (Refused error) new = GivesBack old id (Err error) new
BookStep may_allocate old (call.IsOut id) (Out answer) new = (IsTrue answer ↔ IsOut old id) × (new ≡ old)
BookStep may_allocate old made reply new = ⊥

-- The notes of the allocator before a call and after its reply. A loan that the allocator answered
-- made one request to the allocator. No other call made a request.
abbrev pub NotesCall : {Note : Type 0} → (Layout → Note → Note) → LoanCall → LoanReply → Note → Note → Type 0
NotesCall note_after (call.Loan size) (Loaned id chunk) old new = IsAskedOnce note_after size old new
NotesCall note_after (call.Loan size) (Refused (refused.Allocation error)) old new = IsAskedOnce note_after size old new
NotesCall note_after made reply old new = new ≡ old

-- a step of a book, together with what its allocator notes
abbrev pub NotedStep : {Note : Type 0} → Answers → (Layout → Note → Note) → (Book × Note) → LoanCall → LoanReply →
    (Book × Note) → Type 0
NotedStep may_allocate note_after old made reply new =
    BookStep may_allocate old.0 made reply new.0 × NotesCall note_after made reply old.1 new.1

-- the chunk of each loan has at least the size that the loan requested
abbrev pub AreLongEnough : List LoanCall → List LoanReply → Type 0
AreLongEnough calls replies = (i size id : ℕ) (chunk : Chunk) → slice_get calls i ≡ Some (call.Loan size)
    → slice_get replies i ≡ Some (Loaned id chunk) → size ≤ chunk.len

-- the call gives back the sample of this id
abbrev pub is_return_of : ℕ → LoanCall → Bool
is_return_of id (call.GiveBack other) = other == id
is_return_of id made = false

-- how many of these calls give back the sample of this id
abbrev pub returns_in : ℕ → List LoanCall → ℕ
returns_in id calls = count_by (is_return_of id) calls

-- the call publishes the sample of this id
abbrev pub is_publish_of : ℕ → LoanCall → Bool
is_publish_of id (call.Publish other readers) = other == id
is_publish_of id made = false

-- how many of these calls publish the sample of this id
abbrev pub publishes_in : ℕ → List LoanCall → ℕ
publishes_in id calls = count_by (is_publish_of id) calls

-- the id of the sample that a reply loans, if it loans one
abbrev pub id_of : LoanReply → Option ℕ
id_of (Loaned id chunk) = Some id
id_of reply = None

-- the ids of the samples that these replies loan, in order
abbrev pub ids_in : List LoanReply → List ℕ
ids_in replies = filter_map id_of replies
