-- Objects: abstract allocators whose only state is the live list. Which answers they may give, how
-- each answer changes the live list, and their runs.
use Rattle.bb_memory_traits.specs.Chunk.{AllocationError, Chunk, Layout}
pub use Rattle.bb_memory_traits.specs.declared.allocator.AllocationGrowError.{AllocationGrowError}
use Rattle.bb_memory_traits.specs.declared.allocator.AllocationGrowError.TheVariants as grow
pub use Rattle.bb_memory_traits.specs.declared.allocator.AllocationShrinkError.{AllocationShrinkError}
use Rattle.bb_memory_traits.specs.declared.allocator.AllocationShrinkError.TheVariants as shrink
pub use Rattle.bb_memory_traits.specs.declared.allocator.Command.{Command}
use Rattle.bb_memory_traits.specs.declared.allocator.Command.TheVariants.{Allocate, Grow, Release, Shrink}
pub use Rattle.bb_memory_traits.specs.declared.allocator.Reply.{Reply}
use Rattle.bb_memory_traits.specs.declared.allocator.Reply.TheVariants as reply
use Rattle.std.specs.Prelude.{AllPairs, Bool, Err, List, Ok, Result, Some, [], false, fold, length, remove, slice_get, slice_set, true, ℕ, ◌%◌, ◌++◌, ◌<◌, ◌∷◌, ◌≡◌, ◌≢◌, ◌≤◌}

-- an object: which answers it may give to a request on a live list, and which chunks a release
-- removes
pub record Object : Type 1 where
  -- a release gives back all chunks at once, or one
  pub release_empties : Bool
  -- answers that the object may give to a request for a layout on a live list
  pub may_allocate : List Chunk → Layout → Result Chunk AllocationError → Type 0

-- the object with this kind of release and these answers
abbrev pub object_of : Bool → (List Chunk → Layout → Result Chunk AllocationError → Type 0) → Object
object_of release_empties may_allocate = record { release_empties = release_empties; may_allocate = may_allocate }

-- the list after an answer: a chunk is appended, and a refusal changes nothing
abbrev pub appended : List Chunk → Result Chunk AllocationError → List Chunk
appended live (Ok chunk) = live ++ chunk ∷ []
appended live (Err error) = live

-- the list after a release: empty if all chunks are given back at once, otherwise without the chunk
-- at the position, and the chunks after it move up
abbrev pub released : Bool → List Chunk → ℕ → List Chunk
released true live position = []
released false live position = remove live position

-- on the live list `old` the object may give this answer to the request, and `new` is the live list
-- afterwards
pub record Allocates (object : Object) (old : List Chunk) (layout : Layout)
    (answer : Result Chunk AllocationError) (new : List Chunk) : Type 0 where
  pub answers : object.may_allocate old layout answer
  pub leaves : new ≡ appended old answer

-- the chunk at a position of the live list `old` is given back, and `new` is the live list
-- afterwards
pub record Releases (object : Object) (old : List Chunk) (position : ℕ) (new : List Chunk) : Type 0 where
  pub within : position < length old
  pub leaves : new ≡ released object.release_empties old position

-- ALL ANSWERS

-- there is an answer to each request on each live list
abbrev pub AnswersAll : Object → Type 0
AnswersAll object = (live : List Chunk) (layout : Layout) → (answer : Result Chunk AllocationError)
    × object.may_allocate live layout answer

-- each request has at most one answer
abbrev pub AnswersOnce : Object → Type 0
AnswersOnce object = (live : List Chunk) (layout : Layout) (one other : Result Chunk AllocationError) →
    object.may_allocate live layout one → object.may_allocate live layout other → one ≡ other

-- each chunk that the object may give has this relation to the requested layout
abbrev pub GivesOnly : Object → (Layout → Chunk → Type 0) → Type 0
GivesOnly object Suits = (live : List Chunk) (layout : Layout) (chunk : Chunk) →
    object.may_allocate live layout (Ok chunk) → Suits layout chunk

-- RUNS: commands applied one after the other to an object, with one reply each

-- On the live list `old` the object may give this reply to the command, and `new` is the live list
-- afterwards.
abbrev pub Step : Object → List Chunk → Command → Reply → List Chunk → Type 0
Step object old (Allocate layout) (reply.Chunk chunk) new = Allocates object old layout (Ok chunk) new
Step object old (Allocate layout) (reply.Refused error) new = Allocates object old layout (Err error) new
Step object old (Release position) reply.Released new = Releases object old position new
-- a command is skipped if the list doesn't have its position, and so is every resize
Step object old (Release position) reply.Passed new = (length old ≤ position) × (new ≡ old)
Step object old (Grow position from to) reply.Passed new = new ≡ old
Step object old (Shrink position from to) reply.Passed new = new ≡ old
-- no other reply is given
Step object old command other new = ⊥

-- the replies to these commands lead from `old` to `new`, by one step for each command
abbrev pub IsRun : {S C R : Type 0} → (S → C → R → S → Type 0) → S → List C → List R → S → Type 0
IsRun step old [] [] new = new ≡ old
IsRun {S = S} step old (command ∷ commands) (reply ∷ replies) new =
    (mid : S) × step old command reply mid × IsRun step mid commands replies new
IsRun step old [] (reply ∷ replies) new = ⊥
IsRun step old (command ∷ commands) [] new = ⊥

-- An allocator's note after a command: a request changes it to `after`, and no other command
-- changes it.
abbrev pub note_after_command : {Note : Type 0} → (Layout → Note → Note) → Note → Command → Note
note_after_command after note (Allocate layout) = after layout note
note_after_command after note other = note

-- an allocator's note after these commands, one after another
abbrev pub note_after_run : {Note : Type 0} → (Layout → Note → Note) → Note → List Command → Note
note_after_run after note commands = fold (note_after_command after) note commands

-- RESIZABLE OBJECTS: chunks are resized in place, and a release removes only one chunk

-- no two chunks have the same place
abbrev pub PlacesDiffer : List Chunk → Type 0
PlacesDiffer live = AllPairs (λ one other. one.place ≢ other.place) live

-- an object whose chunks can be resized: it also says which answers it may give to a resize
pub record ResizableObject : Type 1 where
  pub base : Object
  -- how much is reserved for the chunk at a place, in bytes
  pub reserved : ℕ → ℕ
  -- answers that the object may give on a live list to a resize of the chunk at a place, from an
  -- old layout to a new one
  pub may_grow : List Chunk → ℕ → Layout → Layout → Result Chunk AllocationGrowError → Type 0
  pub may_shrink : List Chunk → ℕ → Layout → Layout → Result Chunk AllocationShrinkError → Type 0

-- the object with these answers to requests and resizes, whose release removes one chunk
abbrev pub resizable_object_of :
    (List Chunk → Layout → Result Chunk AllocationError → Type 0) → (ℕ → ℕ) →
    (List Chunk → ℕ → Layout → Layout → Result Chunk AllocationGrowError → Type 0) →
    (List Chunk → ℕ → Layout → Layout → Result Chunk AllocationShrinkError → Type 0) → ResizableObject
resizable_object_of may_allocate reserved may_grow may_shrink = record {
  base = object_of false may_allocate;
  reserved = reserved;
  may_grow = may_grow;
  may_shrink = may_shrink;
}

-- The answers to a grow of the chunk at `place`, from an old layout to a new one, and when each is
-- given. `reserved` bytes are reserved for the chunk, and `most` is the greatest alignment that is
-- allowed. The grown chunk has `len` bytes.
abbrev pub MayGrowAt : (reserved most len place : ℕ) → Layout → Layout → Result Chunk AllocationGrowError → Type 0
MayGrowAt reserved most len place old new (Ok grown) =
    (old.size < new.size) × (new.align ≤ most) × (new.size ≤ reserved) × (grown ≡ record { place = place; len = len })
MayGrowAt reserved most len place old new (Err grow.GrowWouldShrink) = new.size ≤ old.size
MayGrowAt reserved most len place old new (Err grow.AlignmentFailure) = (old.size < new.size) × (most < new.align)
MayGrowAt reserved most len place old new (Err grow.OutOfMemory) =
    (old.size < new.size) × (new.align ≤ most) × (reserved < new.size)

-- The answers to a shrink of the chunk at `place`, and when each is given. The shrunk chunk has
-- exactly the new size.
abbrev pub MayShrinkAt : (most place : ℕ) → Layout → Layout → Result Chunk AllocationShrinkError → Type 0
MayShrinkAt most place old new (Ok shrunk) =
    (new.size < old.size) × (new.align ≤ most) × (shrunk ≡ record { place = place; len = new.size })
MayShrinkAt most place old new (Err shrink.ShrinkWouldGrow) = old.size ≤ new.size
MayShrinkAt most place old new (Err shrink.AlignmentFailure) = (new.size < old.size) × (most < new.align)
-- no call fails with this error
MayShrinkAt most place old new (Err shrink.SizeIsZero) = ⊥

-- the chunk at the position may be grown from this layout: its place is a multiple of the old
-- alignment
pub record MayBeGrown (live : List Chunk) (position : ℕ) (old : Layout) (chunk : Chunk) : Type 0 where
  pub at : slice_get live position ≡ Some chunk
  pub aligned : chunk.place % old.align ≡ 0

-- the chunk at the position may be shrunk from this layout: the old size is also at most what is
-- reserved for the chunk
pub record MayBeShrunk (reserved : ℕ → ℕ) (live : List Chunk) (position : ℕ) (old : Layout) (chunk : Chunk) : Type 0 where
  pub grown : MayBeGrown live position old chunk
  pub within : old.size ≤ reserved chunk.place

-- a resize keeps the place, and changes only that chunk's length
pub record Resizes (live : List Chunk) (position : ℕ) (chunk resized : Chunk) (new : List Chunk) : Type 0 where
  pub place : resized.place ≡ chunk.place
  pub leaves : new ≡ slice_set live position resized

-- On the live list `old` the object may give this reply to the command, and `new` is the live list
-- afterwards.
abbrev pub ResizableStep : ResizableObject → List Chunk → Command → Reply → List Chunk → Type 0
ResizableStep object old (Allocate layout) answer new = Step object.base old (Allocate layout) answer new
ResizableStep object old (Release position) answer new = Step object.base old (Release position) answer new
ResizableStep object old (Grow position from to) (reply.Chunk resized) new =
    (chunk : Chunk) × MayBeGrown old position from chunk × object.may_grow old chunk.place from to (Ok resized)
    × Resizes old position chunk resized new
ResizableStep object old (Grow position from to) (reply.GrowRefused error) new =
    (chunk : Chunk) × MayBeGrown old position from chunk × object.may_grow old chunk.place from to (Err error) × (new ≡ old)
-- a resize is skipped if its condition fails
ResizableStep object old (Grow position from to) reply.Passed new =
    ((chunk : Chunk) → ¬ MayBeGrown old position from chunk) × (new ≡ old)
ResizableStep object old (Shrink position from to) (reply.Chunk resized) new =
    (chunk : Chunk) × MayBeShrunk object.reserved old position from chunk × object.may_shrink old chunk.place from to (Ok resized)
    × Resizes old position chunk resized new
ResizableStep object old (Shrink position from to) (reply.ShrinkRefused error) new =
    (chunk : Chunk) × MayBeShrunk object.reserved old position from chunk
    × object.may_shrink old chunk.place from to (Err error) × (new ≡ old)
ResizableStep object old (Shrink position from to) reply.Passed new =
    ((chunk : Chunk) → ¬ MayBeShrunk object.reserved old position from chunk) × (new ≡ old)
-- no other reply is given
ResizableStep object old command answer new = ⊥
