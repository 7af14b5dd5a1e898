-- Records that a slab stores in chunks of an allocator, and answers to its requests.
use Rattle.bb_memory_traits.specs.Chunk.{Chunk}
use Rattle.bb_memory_traits.specs.HeldBytes.{HeldBytes, bytes_in, held_region}
use Rattle.bb_memory_traits.specs.declared.allocator.AllocationError.{AllocationError}
use Rattle.bb_memory_traits.specs.declared.layout.Layout.{Layout}
use Rattle.layers.specs.declared.slab.InsertError.{InsertError}
use Rattle.layers.specs.declared.slab.InsertError.TheVariants as insert
use Rattle.std.specs.Align.{IsLayout}
use Rattle.std.specs.Prelude.{Err, IfErr, List, Ok, OnErr, OnOk, Result, [], length, map, ℕ, ◌++◌, ◌+◌, ◌<◌, ◌∷◌, ◌≡◌}

-- the answers that a request may have
abbrev pub Answers : Type 1
Answers = Layout → Result Chunk AllocationError → Type 0

-- the layout has `size` bytes and alignment 1, so its chunk may be at any place
pub record IsOfBytes (layout : Layout) (size : ℕ) : Type 0 where
  pub many : layout.size ≡ size
  pub align : layout.align ≡ 1

-- a request for `size` bytes may have this answer: not every layout of `size` bytes rules it out
pub record MayAnswer (may_answer : Answers) (size : ℕ) (answer : Result Chunk AllocationError) : Type 0 where
  pub may : ¬ ((layout : Layout) → IsOfBytes layout size → ¬ may_answer layout answer)

-- There is a layout of `size` bytes at alignment 1, and a single request for it turned the note
-- `old` into `new`.
pub record IsAskedOnce {Note : Type 0} (note_after : Layout → Note → Note) (size : ℕ) (old new : Note) : Type 0 where
  pub some : IsLayout size 1
  pub once : (layout : Layout) → IsOfBytes layout size → new ≡ note_after layout old

-- a request may get a longer chunk
pub record MayGiveLonger (may_answer : Answers) (size : ℕ) : Type 0 where
  pub may : ¬ ((layout : Layout) (chunk : Chunk) → IsOfBytes layout size → size < chunk.len → ¬ may_answer layout (Ok chunk))

-- the reason why a record of `size` bytes wasn't stored
abbrev pub InsertFails : Answers → ℕ → InsertError → Type 0
-- no layout has this size
InsertFails may_answer size (insert.Layout error) = ¬ IsLayout size 1
-- memory for the list ran out, which nothing here predicts
InsertFails may_answer size (insert.List error) = IsLayout size 1
InsertFails may_answer size (insert.Refused error) = MayAnswer may_answer size (Err error)
InsertFails may_answer size insert.NoExactChunk = MayGiveLonger may_answer size

-- the refusal is the layer's own: the allocator gets no request
abbrev pub IsUnasked : InsertError → Type 0
IsUnasked (insert.Layout error) = Unit {0}
IsUnasked (insert.List error) = Unit {0}
IsUnasked _ = ⊥

-- the allocator's note after an answer: it gets one request, or none if the refusal is the layer's
-- own
abbrev pub NotesRequest : {Note : Type 0} → (Layout → Note → Note) → ℕ → Result (Unit {0}) InsertError → Note → Note → Type 0
NotesRequest note_after size (Err (insert.Layout error)) old new = new ≡ old
NotesRequest note_after size (Err (insert.List error)) old new = new ≡ old
NotesRequest note_after size answer old new = IsAskedOnce note_after size old new

-- a further chunk is in use, of exactly `size` bytes, which the allocator may give
pub record HasOneMore (may_answer : Answers) (size : ℕ) (old new : List Chunk) : Type 0 where
  pub chunk : Chunk
  pub exact : chunk.len ≡ size
  pub given : MayAnswer may_answer size (Ok chunk)
  pub behind : new ≡ old ++ chunk ∷ []

-- RECORDS

-- the bytes of each chunk, in order
abbrev pub records_in : HeldBytes → List Chunk → List (List ℕ)
records_in held chunks = map (bytes_in held) chunks

-- the region `new` has these records in these chunks, and begins and ends at the same places as
-- `old`
pub record HoldsThen (old new : HeldBytes) (chunks : List Chunk) (records : List (List ℕ)) : Type 0 where
  pub written : records_in new chunks ≡ records
  pub region : held_region new ≡ held_region old

-- the value of a slab: the allocator below, the chunks that are in use, and the record in each
pub record Records (A : Type 0) : Type 0 where
  pub allocator : A
  pub chunks : List Chunk
  pub records : List (List ℕ)

-- The effect of a request to store these bytes on a slab, and the result. `geometry_of` and
-- `may_allocate` are those of the allocator below.
pub record Stores {A G : Type 0} (geometry_of : A → G) (may_allocate : G → List Chunk → Answers)
    (old : Records A) (bytes : List ℕ) (result : Result (Unit {0}) InsertError) (new : Records A) : Type 0 where
  pub appended : OnOk result (new.records ≡ old.records ++ bytes ∷ [])
  pub chunk : OnOk result (HasOneMore (may_allocate (geometry_of old.allocator) old.chunks) (length bytes) old.chunks new.chunks)
  pub refused : IfErr result (InsertFails (may_allocate (geometry_of old.allocator) old.chunks) (length bytes))
  pub unasked : IfErr result (λ error. IsUnasked error → new ≡ old)
  pub unchanged : OnErr result (new ≡ record old { allocator = new.allocator })
  pub geometry : geometry_of new.allocator ≡ geometry_of old.allocator
