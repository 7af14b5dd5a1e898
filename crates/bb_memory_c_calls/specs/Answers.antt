-- Answers in the form that C gets them. Re-exports the codes of `src/code.rt`, under the names that
-- clauses use.
use Rattle.bb_memory_c_calls.specs.declared.answer.Answer.{Answer}
use Rattle.bb_memory_c_calls.specs.declared.answer.Figure.{Figure}
use Rattle.bb_memory_c_calls.specs.declared.answer.Holder.{Holder}
pub use Rattle.bb_memory_c_calls.specs.declared.code.TheConstants.{ALIGNMENT_FAILURE as alignment_failure, ALREADY_INITIALIZED as already_initialized, BUCKET_DETACHED as bucket_detached, DETACHED_EMPTY as detached_empty, DETACHED_FULL as detached_full, GROW_WOULD_SHRINK as grow_would_shrink, INVALID_ARGUMENT as invalid_argument, INVALID_LAYOUT as invalid_layout, LAYOUT_MISMATCH as layout_mismatch, MALLOC_REFUSED as malloc_refused, MORE_THAN_RESERVED as more_than_reserved, NOT_A_BUCKET as not_a_bucket, NOT_HELD as not_held, NO_BUCKET as no_bucket, NO_PARTY as no_party, OK as ok, ONE_PARTY as one_party, OTHER_POOL as other_pool, OUT_OF_MEMORY as out_of_memory, PARTIES_JOINED as parties_joined, SHRINK_WOULD_GROW as shrink_would_grow, SIZE_IS_ZERO as size_is_zero, SIZE_TOO_LARGE as size_too_large, UNINITIALIZED as uninitialized}
use Rattle.bb_memory_pool_machine.specs.declared.steps.pool.Flag.{Flag}
use Rattle.bb_memory_pool_machine.specs.declared.steps.pool.Flag.TheVariants.{DetachedBy, Free, HeldBy}
use Rattle.bb_memory_traits.specs.Chunk.{Chunk}
use Rattle.bb_memory_traits.specs.declared.allocator.AllocationError.{AllocationError}
use Rattle.bb_memory_traits.specs.declared.allocator.AllocationError.TheVariants as request
use Rattle.bb_memory_traits.specs.declared.allocator.AllocationGrowError.{AllocationGrowError}
use Rattle.bb_memory_traits.specs.declared.allocator.AllocationGrowError.TheVariants as grow
use Rattle.bb_memory_traits.specs.declared.allocator.AllocationShrinkError.{AllocationShrinkError}
use Rattle.bb_memory_traits.specs.declared.allocator.AllocationShrinkError.TheVariants as shrink
use Rattle.bb_memory_traits.specs.declared.layout.Layout.{Layout}
use Rattle.std.specs.Prelude.{Err, None, Ok, Option, Result, Some, ℕ, ◌≡◌}

-- no chunk, for the reason of this code
abbrev pub refused : ℕ → Answer
refused code = record { code = code; place = 0 }

-- the code of a refused request
abbrev pub code_of : AllocationError → ℕ
code_of request.SizeIsZero = size_is_zero
code_of request.SizeTooLarge = size_too_large
code_of request.AlignmentFailure = alignment_failure
code_of request.OutOfMemory = out_of_memory

-- the place of the chunk, or the code of the error by `code`
abbrev pub answer_by : {E : Type 0} → (E → ℕ) → Result Chunk E → Answer
answer_by code (Ok chunk) = record { code = ok; place = chunk.place }
answer_by code (Err error) = refused (code error)

-- C's answer to a request: the place of the chunk, or the code of the error
abbrev pub answer_of : Result Chunk AllocationError → Answer
answer_of = answer_by code_of

-- the requested number
abbrev pub figure_of : ℕ → Figure
figure_of number = record { code = ok; number = number }

-- no number, for the reason of this code
abbrev pub no_figure : ℕ → Figure
no_figure code = record { code = code; number = 0 }

-- FLAGS

-- a bucket's flag in the form that C gets it: its state, and the party that it names, or 0
abbrev pub shown_flag : Flag → Holder
shown_flag Free = record { state = 0; party = 0 }
shown_flag (HeldBy party) = record { state = 1; party = party }
shown_flag (DetachedBy party) = record { state = 2; party = party }

-- RESIZES

-- the code of a refused grow
abbrev pub grow_code : AllocationGrowError → ℕ
grow_code grow.GrowWouldShrink = grow_would_shrink
grow_code grow.AlignmentFailure = alignment_failure
grow_code grow.OutOfMemory = more_than_reserved

-- the code of a refused shrink
abbrev pub shrink_code : AllocationShrinkError → ℕ
shrink_code shrink.ShrinkWouldGrow = shrink_would_grow
shrink_code shrink.AlignmentFailure = alignment_failure
shrink_code shrink.SizeIsZero = size_is_zero

-- A resize of the chunk at a place. If a chunk is held there and the old layout fits it, C gets an
-- answer that `may` allows. If the layout doesn't fit, C gets BB_LAYOUT_MISMATCH, and if no chunk
-- is held there, BB_NOT_HELD.
pub record TellsResized {E : Type 0} (held fits : Type 0) (code : E → ℕ) (may : Result Chunk E → Type 0) (told : Answer)
    : Type 0 where
  pub answered : held → fits → (answer : Result Chunk E) × (told ≡ answer_by code answer) × may answer
  pub misfit : held → ¬ fits → told ≡ refused layout_mismatch
  pub nothing : ¬ held → told ≡ refused not_held

-- an answer that changes nothing
pub record AnswersStill {X : Type 0} (old new : X) (answered : Type 0) : Type 0 where
  pub answer : answered
  pub unchanged : new ≡ old

-- if the numbers made two layouts, `tells` holds for them; otherwise C gets BB_INVALID_LAYOUT
abbrev pub TellsOfLayouts : Option (Layout × Layout) → Answer → (Layout → Layout → Type 0) → Type 0
TellsOfLayouts (Some layouts) told tells = tells layouts.0 layouts.1
TellsOfLayouts None told tells = told ≡ refused invalid_layout
