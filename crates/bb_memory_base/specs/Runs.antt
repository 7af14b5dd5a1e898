-- Runs of an allocator and of its live list: the step of each command, and the result of a list of
-- commands.
use Rattle.bb_memory_traits.specs.Chunk.{Chunk, Fits, IsSound}
use Rattle.bb_memory_traits.specs.Object.{IsRun, note_after_command}
use Rattle.bb_memory_traits.specs.declared.allocator.AllocationError.{AllocationError}
use Rattle.bb_memory_traits.specs.declared.allocator.BaseAllocator.{Ghosts as BaseWords}
use Rattle.bb_memory_traits.specs.declared.allocator.Command.{Command}
use Rattle.bb_memory_traits.specs.declared.allocator.Command.TheVariants.{Allocate, Release}
use Rattle.bb_memory_traits.specs.declared.allocator.Reply.{Reply}
use Rattle.bb_memory_traits.specs.declared.allocator.Reply.TheVariants as reply
use Rattle.bb_memory_traits.specs.declared.layout.Layout.{Layout}
use Rattle.std.specs.Prelude.{Err, IfOk, List, Ok, OnErr, OnOk, Result, Some, Vec, slice_get, vec_capacity, vec_len, ℕ, ◌+◌, ◌≡◌, ◌≤◌}

-- each chunk that a request got suits the layout of the request
abbrev pub EachGiven : (Layout → Chunk → Type 0) → List Command → List Reply → Type 0
EachGiven Suits commands replies =
    (i : ℕ) (layout : Layout) (chunk : Chunk) → slice_get commands i ≡ Some (Allocate layout) →
    slice_get replies i ≡ Some (reply.Chunk chunk) → Suits layout chunk

-- The value of an allocator after a command on this live list. `takes` determines it after a
-- request, by the answer. `frees` determines it after a release, by the chunk's place and some
-- layout. Every other command leaves the value unchanged.
abbrev pub ValueStep : {Allocator : Type 0} → (Allocator → Layout → Result Chunk AllocationError → Allocator → Type 0) →
    (Allocator → ℕ → Layout → Allocator → Type 0) → List Chunk → Command → Reply → Allocator → Allocator → Type 0
ValueStep takes frees live (Allocate layout) (reply.Chunk chunk) old new = takes old layout (Ok chunk) new
ValueStep takes frees live (Allocate layout) (reply.Refused error) old new = takes old layout (Err error) new
ValueStep takes frees live (Release position) reply.Released old new =
    (chunk : Chunk) × (layout : Layout) × (slice_get live position ≡ Some chunk) × frees old chunk.place layout new
ValueStep takes frees live command other old new = new ≡ old

-- a step of an allocator and its live list: the list changes by a step of the object, and the
-- allocator by its value
abbrev pub AllocatorStep : {Allocator : Type 0} → (List Chunk → Command → Reply → List Chunk → Type 0) →
    (Allocator → Layout → Result Chunk AllocationError → Allocator → Type 0) →
    (Allocator → ℕ → Layout → Allocator → Type 0) →
    (Allocator × List Chunk) → Command → Reply → (Allocator × List Chunk) → Type 0
AllocatorStep Steps takes frees old command answer new =
    Steps old.1 command answer new.1 × ValueStep takes frees old.1 command answer old.0 new.0

-- An allocator and its live list after one command: the reply and the list are those of a step of
-- the object, and the allocator is as its own promises say. The live list had room for one more
-- chunk.
pub record Applies {Allocator Alloc : Type 0} (words : BaseWords Allocator)
    (Steps : List Chunk → Command → Reply → List Chunk → Type 0)
    (command : Command) (answer : Reply) (old new : Allocator) (live left : Vec Chunk Alloc) : Type 0 where
  pub step : AllocatorStep Steps words.takes words.frees (old, live.items) command answer (new, left.items)
  pub fits : (layout : Layout) (chunk : Chunk) → command ≡ Allocate layout → answer ≡ reply.Chunk chunk
      → Fits (words.region_of (words.geometry old)) layout chunk
  pub stands : words.stands_for new left.items
  pub geometry : words.geometry new ≡ words.geometry old
  pub note : words.note new ≡ note_after_command (words.note_after (words.geometry old)) (words.note old) command
  pub len : vec_len left ≤ vec_len live + 1
  pub capacity : vec_capacity live ≤ vec_capacity left

-- The replies of an allocator to a list of commands, and the allocator and live list afterwards. If
-- memory ran out, no command was applied.
pub record AnswersRun {Allocator Alloc Error : Type 0} (words : BaseWords Allocator)
    (Steps : List Chunk → Command → Reply → List Chunk → Type 0) (commands : List Command)
    (answer : Result (Vec Reply Alloc) Error) (old new : Allocator) (live left : List Chunk) : Type 0 where
  pub run : IfOk answer (λ replies. IsRun Steps live commands replies.items left)
  pub values : IfOk answer (λ replies.
      IsRun (AllocatorStep Steps words.takes words.frees) (old, live) commands replies.items (new, left))
  pub stands : OnOk answer (words.stands_for new left)
  pub sound : OnOk answer (IsSound (words.region_of (words.geometry old)) left)
  pub fits : IfOk answer (λ replies. EachGiven (Fits (words.region_of (words.geometry old))) commands replies.items)
  pub geometry : words.geometry new ≡ words.geometry old
  pub unchanged : OnErr answer (new ≡ old)
  pub kept : OnErr answer (left ≡ live)
