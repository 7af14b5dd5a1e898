-- Answers of the bump object, and the lists to which they lead.
use Rattle.bb_memory_traits.proofs.LeastPlaces.{least_place-is, least_place-multiple}
use Rattle.bb_memory_traits.proofs.LiveLists.{StandsFor-empty, StandsFor-push, all_end_by, end_of_last-above}
use Rattle.bb_memory_traits.proofs.Runs.{IsRun-keeps}
use Rattle.bb_memory_traits.specs.BumpObject.{IsInOrder, MayAllocate, StandsFor, bump_object, end_of_last, next_chunk}
use Rattle.bb_memory_traits.specs.Chunk.{AlignmentFailure, AllocationError, Chunk, IsInside, Layout, OutOfMemory, Region, SizeIsZero, SizeTooLarge, chunk_end, region_end}
use Rattle.bb_memory_traits.specs.Object.{Command, IsRun, Reply, Step}
use Rattle.bb_memory_traits.specs.declared.allocator.Command.TheVariants.{Allocate, Grow, Release, Shrink}
use Rattle.bb_memory_traits.specs.declared.allocator.Reply.TheVariants as reply
use Rattle.std.proofs.Common.{Err, List, Ok, Result, [], ap, arith, inl, inr, refl, subst, sym, ℕ, ◌%◌, ◌++◌, ◌-◌, ◌∙◌, ◌∷◌, ◌≡◌, ◌≤◌}
use Rattle.std.proofs.lemmas.Bool.{cases_lt}
use Rattle.std.specs.List.{All}

-- there is an answer to each request
pub some_answer : (region : Region) (live : List Chunk) (layout : Layout) →
    (answer : Result Chunk AllocationError) × MayAllocate region live layout answer
some_answer region live layout =
    let next = next_chunk region live layout in
    elim (cases_lt 0 layout.size) [
      | inl some ↦ elim (cases_lt (region_end region) (chunk_end next)) [
        | inl far ↦ (Err OutOfMemory, (some, far))
        | inr near ↦ (Ok next, (some, near, refl))
      ]
      | inr none ↦ (Err SizeIsZero, omega arith)
    ]

-- each request has at most one answer
pub one_answer : (region : Region) (live : List Chunk) (layout : Layout) (one other : Result Chunk AllocationError) →
    MayAllocate region live layout one → MayAllocate region live layout other → one ≡ other
one_answer region live layout (Ok c) (Ok d) (_, _, first) (_, _, second) = ap Ok (first ∙ sym second)
one_answer region live layout (Err SizeIsZero) (Err SizeIsZero) first second = refl
one_answer region live layout (Err OutOfMemory) (Err OutOfMemory) first second = refl
one_answer region live layout (Ok c) (Err SizeIsZero) first second = absurd (omega arith)
one_answer region live layout (Err SizeIsZero) (Ok c) first second = absurd (omega arith)
one_answer region live layout (Ok c) (Err OutOfMemory) first second =
    absurd (omega (arith, ap (λ (k : Chunk). chunk_end k) first.2))
one_answer region live layout (Err OutOfMemory) (Ok c) first second =
    absurd (omega (arith, ap (λ (k : Chunk). chunk_end k) second.2))
one_answer region live layout (Err OutOfMemory) (Err SizeIsZero) first second = absurd (omega arith)
one_answer region live layout (Err SizeIsZero) (Err OutOfMemory) first second = absurd (omega arith)
one_answer region live layout (Err SizeTooLarge) other first second = absurd first
one_answer region live layout (Err AlignmentFailure) other first second = absurd first
one_answer region live layout one (Err SizeTooLarge) first second = absurd second
one_answer region live layout one (Err AlignmentFailure) first second = absurd second

-- a chunk that is given begins at or after the end of the last one
pub answer-after : (region : Region) (live : List Chunk) (layout : Layout) (chunk : Chunk) →
    MayAllocate region live layout (Ok chunk) → end_of_last region.start live ≤ chunk.place
answer-after region live layout chunk told = grind (arith, least_place-is)

-- the answered chunk begins at a multiple of the alignment
pub answer-aligned : (region : Region) (live : List Chunk) (layout : Layout) (chunk : Chunk) →
    MayAllocate region live layout (Ok chunk) → chunk.place % layout.align ≡ 0
answer-aligned region live layout chunk told = grind (arith, least_place-multiple)

-- the answered chunk has the requested size
pub answer-len : (region : Region) (live : List Chunk) (layout : Layout) (chunk : Chunk) →
    MayAllocate region live layout (Ok chunk) → chunk.len ≡ layout.size
answer-len region live layout chunk told = ap (λ (k : Chunk). k.len) told.2

-- the answered chunk is inside the region, if the list is in order
pub answer-inside : (region : Region) (live : List Chunk) (layout : Layout) (chunk : Chunk) →
    IsInOrder region.start live → MayAllocate region live layout (Ok chunk) → IsInside region chunk
answer-inside region live layout chunk ordered told = grind (arith, answer-after, end_of_last-above)

-- the answered chunk begins at or after the end of each chunk of a list in order
pub answer-after_all : (region : Region) (live : List Chunk) (layout : Layout) (chunk : Chunk) →
    IsInOrder region.start live → MayAllocate region live layout (Ok chunk) → All (λ other. chunk_end other ≤ chunk.place) live
answer-after_all region live layout chunk ordered told =
    all_end_by region.start chunk.place live ordered (answer-after region live layout chunk told)

-- a bump stands for this list at some position
abbrev IsBumpList : Region → List Chunk → Type 0
IsBumpList region live = (position : ℕ) × StandsFor region position live

-- a list remains one that a bump stands for
same_list : (region : Region) (old new : List Chunk) → new ≡ old → IsBumpList region old → IsBumpList region new
same_list region old new same stands = subst (IsBumpList region) (sym same) stands

-- each step from a list that a bump stands for leads to another such list
step-keeps : (region : Region) (old new : List Chunk) (command : Command) (answer : Reply) →
    IsBumpList region old → Step (bump_object region) old command answer new → IsBumpList region new
step-keeps region old new (Allocate layout) (reply.Chunk chunk) stands step =
    let after = answer-after region old layout chunk step.answers in
    let pushed = StandsFor-push region stands.0 old chunk stands.1 after step.answers.1 in
    same_list region (old ++ chunk ∷ []) new step.leaves (chunk_end chunk - region.start, pushed)
step-keeps region old new (Allocate layout) (reply.Refused error) stands step = same_list region old new step.leaves stands
step-keeps region old new (Release position) reply.Released stands step =
    same_list region [] new step.leaves (0, StandsFor-empty region)
step-keeps region old new (Release position) reply.Passed stands step = same_list region old new step.1 stands
step-keeps region old new (Grow position from to) reply.Passed stands step = same_list region old new step stands
step-keeps region old new (Shrink position from to) reply.Passed stands step = same_list region old new step stands
step-keeps region old new command other stands step = absurd step

-- each run from a list that a bump stands for leads to another such list
pub run-keeps : (region : Region) (position : ℕ) (live new : List Chunk) (commands : List Command) (replies : List Reply) →
    StandsFor region position live → IsRun (Step (bump_object region)) live commands replies new →
    (left : ℕ) × StandsFor region left new
run-keeps region position live new commands replies stands run =
    IsRun-keeps (Step (bump_object region)) (IsBumpList region) (step-keeps region) live new commands replies
    (position, stands) run
