-- The bytes of a region after one of its chunks was lent.
use Rattle.bb_memory_traits.specs.Chunk.{Chunk}
use Rattle.bb_memory_traits.specs.HeldBytes.{HeldBytes, bytes_before}
use Rattle.bb_memory_traits.specs.contracts.region.Region.{the_row}
use Rattle.std.specs.Borrow.{Array, Fml, Lends, MutBor, u8}
use Rattle.std.specs.Prelude.{List, drop, length, take, ℕ, ◌++◌, ◌+◌, ◌-◌}

-- the region after `bytes` were written in the chunk: the bytes before the chunk, the written ones,
-- and those after it. The result is cut to the old length, since a borrower writes exactly the
-- bytes that it was lent.
abbrev pub written : HeldBytes → Chunk → List ℕ → HeldBytes
written held chunk bytes = record {
  start = held.start;
  bytes = take (length held.bytes) (bytes_before held chunk
      ++ (bytes ++ drop (chunk.place - held.start + length bytes) held.bytes));
}

-- at the end of the loan, the region has in the chunk the bytes that the borrower left there
abbrev pub LendsChunk : MutBor HeldBytes → Chunk → MutBor (List ℕ) → Fml
LendsChunk lender chunk lent = Lends the_row (Array u8 0) lender lent (written lender.now chunk)
