-- Books: how many samples were loaned so far, and those that are in use. Loan books: an allocator,
-- and its book.
use Rattle.bb_memory_traits.specs.Chunk.{Chunk}
use Rattle.bb_memory_traits.specs.declared.layout.Layout.{Layout}
use Rattle.loan_book.specs.declared.book.Sample as declared
pub use Rattle.loan_book.specs.declared.error.LoanError.{LoanError}
use Rattle.loan_book.specs.declared.error.LoanError.TheVariants.{Allocation}
use Rattle.std.specs.Option.{ForSome}
use Rattle.std.specs.Prelude.{All, AllPairs, List, None, Option, Some, map, slice_get, ℕ, ◌<◌, ◌^◌, ◌≡◌}

-- a sample: its id, its chunk, and how many returns of it are to come, or None if it isn't
-- published
abbrev pub Sample : Type 0
Sample = declared.Sample

-- how many returns of a sample are to come; one that isn't published waits for one
abbrev pub returns_to_come : Option ℕ → ℕ
returns_to_come None = 1
returns_to_come (Some returns) = returns

-- how many samples were loaned so far, which is also the next sample's id, and the samples that are
-- in use, in the order of their ids
pub record Book : Type 0 where
  pub loaned : ℕ
  pub out : List Sample

-- the chunks of these samples
abbrev pub chunks_of : List Sample → List Chunk
chunks_of samples = map (λ sample. sample.chunk) samples

-- the chunks of the samples that are in use
abbrev pub chunks_out : Book → List Chunk
chunks_out book = chunks_of book.out

-- The invariant of a book: ids rise, so each is in the book once, and each is that of a sample that
-- was loaned and waits for a return.
pub record IsBook (book : Book) : Type 0 where
  pub rising : AllPairs (λ one other. one.id < other.id) book.out
  pub loaned : All (λ sample. sample.id < book.loaned) book.out
  pub waiting : All (λ sample. 0 < returns_to_come sample.returns) book.out

-- the sample of this id is at this position of the book
pub record IsAt (book : Book) (id position : ℕ) (sample : Sample) : Type 0 where
  pub at : slice_get book.out position ≡ Some sample
  pub has_id : sample.id ≡ id

-- the sample of this id is in use
abbrev pub IsOut : Book → ℕ → Type 0
IsOut book id = (position : ℕ) × (sample : Sample) × IsAt book id position sample

-- the sample of this id is in use, and `returns` says for how many returns it waits
abbrev pub HasReturns : Book → ℕ → Option ℕ → Type 0
HasReturns book id returns = (position : ℕ) × (sample : Sample) × IsAt book id position sample × (sample.returns ≡ returns)

-- the sample of this id is in use, and is published
abbrev pub IsPublished : Book → ℕ → Type 0
IsPublished book id = (returns : ℕ) × HasReturns book id (Some returns)

-- the sample of this id is in use, and isn't published
abbrev pub IsUnpublished : Book → ℕ → Type 0
IsUnpublished book id = HasReturns book id None

-- a loan book: the allocator that its chunks come from, and its book
pub record LoanBook (A : Type 0) : Type 0 where
  pub allocator : A
  pub book : Book

-- how many samples were loaned if this is the next id; if there is no next id, all 2 ^ 64 are used
-- up
abbrev pub loaned_before : Option ℕ → ℕ
loaned_before None = 2 ^ 64
loaned_before (Some id) = id

-- the book with this next id, in which these samples are in use
abbrev pub book_of : Option ℕ → List Sample → Book
book_of next out = record { loaned = loaned_before next; out = out }

-- The invariant of a loan book: the allocator stands for exactly the chunks of the samples that are
-- in use, and the book is one that calls can lead to.
pub record IsLoanBook {A : Type 0} (stands_for : A → List Chunk → Type 0) (allocator : A) (next : Option ℕ)
    (out : List Sample) : Type 0 where
  pub stands : stands_for allocator (chunks_of out)
  pub book : IsBook (book_of next out)
  pub next_fits : ForSome next (λ id. id < 2 ^ 64)

-- after every call the allocator stands for exactly the chunks of the samples that are in use, and
-- has its old geometry
pub record StillStands {A Geometry : Type 0} (stands_for : A → List Chunk → Type 0) (geometry_of : A → Geometry)
    (old new : LoanBook A) : Type 0 where
  pub stands : stands_for new.allocator (chunks_out new.book)
  pub geometry : geometry_of new.allocator ≡ geometry_of old.allocator

-- the allocator refused, and not the book itself
abbrev pub IsAllocators : LoanError → Type 0
IsAllocators (Allocation error) = Unit {0}
IsAllocators _ = ⊥

-- a single request for `size` bytes, at any place, turned the note `old` into `new`
pub record IsAskedOnce {Note : Type 0} (note_after : Layout → Note → Note) (size : ℕ) (old new : Note) : Type 0 where
  pub layout : Layout
  pub many : layout.size ≡ size
  pub align : layout.align ≡ 1
  pub noted : new ≡ note_after layout old
