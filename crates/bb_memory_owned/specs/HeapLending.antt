-- A heap block whose bytes were lent.
use Rattle.bb_memory_owned.specs.contracts.heap_allocator.HeapBlock.{the_row}
use Rattle.std.specs.Borrow.{Array, Fml, Lends, MutBor, u8}
use Rattle.std.specs.Prelude.{List, drop, length, take, ℕ, ◌++◌}

-- the block after `bytes` were written in it, cut to the block's length, since a borrower writes
-- exactly the bytes that it was lent
abbrev pub written : List ℕ → List ℕ → List ℕ
written block bytes = take (length block) (bytes ++ drop (length bytes) block)

-- at the end of the loan, the block has the bytes that the borrower left
abbrev pub LendsBlock : MutBor (List ℕ) → MutBor (List ℕ) → Fml
LendsBlock lender lent = Lends the_row (Array u8 0) lender lent (written lender.now)
