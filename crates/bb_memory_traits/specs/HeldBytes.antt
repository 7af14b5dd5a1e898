-- The bytes of a region.
use Rattle.bb_memory_traits.specs.Chunk.{Chunk, Region}
use Rattle.std.specs.Prelude.{IfOk, List, OnErr, Result, drop, length, replicate, slice_range, take, ℕ, ◌+◌, ◌-◌, ◌≡◌}

-- the bytes of a region: where they start, and the bytes from there on
pub record HeldBytes : Type 0 where
  pub start : ℕ
  pub bytes : List ℕ

-- the region that these bytes fill
abbrev pub held_region : HeldBytes → Region
held_region held = record { start = held.start; size = length held.bytes }

-- the bytes before a chunk
abbrev pub bytes_before : HeldBytes → Chunk → List ℕ
bytes_before held chunk = take (chunk.place - held.start) held.bytes

-- the bytes of a chunk
abbrev pub bytes_in : HeldBytes → Chunk → List ℕ
bytes_in held chunk = slice_range held.bytes (chunk.place - held.start) (chunk.place - held.start + chunk.len)

-- the bytes after a chunk
abbrev pub bytes_behind : HeldBytes → Chunk → List ℕ
bytes_behind held chunk = drop (chunk.place - held.start + chunk.len) held.bytes

-- the chunk has these bytes in `new`, and every other byte is as in `old`
pub record ChangesOnly (old new : HeldBytes) (chunk : Chunk) (bytes : List ℕ) : Type 0 where
  pub start : new.start ≡ old.start
  pub size : length new.bytes ≡ length old.bytes
  pub inside : bytes_in new chunk ≡ bytes
  pub before : bytes_before new chunk ≡ bytes_before old chunk
  pub behind : bytes_behind new chunk ≡ bytes_behind old chunk

-- the chunk's bytes are zero in `new`, and every other byte is as in `old`
abbrev pub ZeroesOnly : HeldBytes → HeldBytes → Chunk → Type 0
ZeroesOnly old new chunk = ChangesOnly old new chunk (replicate chunk.len 0)

-- a chunk's first bytes
abbrev pub first_part : ℕ → Chunk → Chunk
first_part size chunk = record { place = chunk.place; len = size }

-- exactly this part of the returned chunk is zeroed; a refusal leaves every byte unchanged
pub record ZeroesAnswered {Error : Type 0} (part : Chunk → Chunk) (old new : HeldBytes)
    (answer : Result Chunk Error) : Type 0 where
  pub zeroed : IfOk answer (λ chunk. ZeroesOnly old new (part chunk))
  pub unchanged : OnErr answer (new ≡ old)

-- the rest of a chunk after its first bytes
abbrev pub part_behind : ℕ → Chunk → Chunk
part_behind size chunk = record { place = chunk.place + size; len = chunk.len - size }
