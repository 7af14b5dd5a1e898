-- Properties of live lists that each step of an object keeps, and so each run.
use Rattle.bb_memory_owned.specs.OneChunk.{Layout}
use Rattle.bb_memory_traits.proofs.Runs.{IsRun-keeps}
use Rattle.bb_memory_traits.specs.Chunk.{Chunk}
use Rattle.bb_memory_traits.specs.Object.{IsRun, MayBeGrown, MayBeShrunk, ResizableObject, ResizableStep, Step, released}
use Rattle.bb_memory_traits.specs.declared.allocator.Command.{Command}
use Rattle.bb_memory_traits.specs.declared.allocator.Command.TheVariants.{Allocate, Grow, Release, Shrink}
use Rattle.bb_memory_traits.specs.declared.allocator.Reply.{Reply}
use Rattle.bb_memory_traits.specs.declared.allocator.Reply.TheVariants as reply
use Rattle.std.proofs.Common.{List, Ok, [], length, slice_set, subst, sym, ℕ, ◌++◌, ◌<◌, ◌∷◌, ◌≡◌}

-- the property goes on if a chunk is given, is given back, or is resized
pub record IsKept (object : ResizableObject) (P : List Chunk → Type 0) : Type 0 where
  pub given : (live : List Chunk) (layout : Layout) (chunk : Chunk) → P live →
      object.base.may_allocate live layout (Ok chunk) → P (live ++ chunk ∷ [])
  pub left : (live : List Chunk) (position : ℕ) → P live → position < length live →
      P (released object.base.release_empties live position)
  pub grown : (live : List Chunk) (position : ℕ) (chunk resized : Chunk) (from to : Layout) → P live →
      MayBeGrown live position from chunk → object.may_grow live chunk.place from to (Ok resized) →
      resized.place ≡ chunk.place → P (slice_set live position resized)
  pub shrunk : (live : List Chunk) (position : ℕ) (chunk resized : Chunk) (from to : Layout) → P live →
      MayBeShrunk object.reserved live position from chunk → object.may_shrink live chunk.place from to (Ok resized) →
      resized.place ≡ chunk.place → P (slice_set live position resized)

module _ (object : ResizableObject) (P : List Chunk → Type 0) (kept : IsKept object P) where
  base_step : (old new : List Chunk) (command : Command) (answer : Reply) → P old →
      Step object.base old command answer new → P new
  base_step old new (Allocate layout) (reply.Chunk chunk) is step =
      subst P (sym step.leaves) (kept.given old layout chunk is step.answers)
  base_step old new (Allocate layout) (reply.Refused error) is step = subst P (sym step.leaves) is
  base_step old new (Release position) reply.Released is step =
      subst P (sym step.leaves) (kept.left old position is step.within)
  base_step old new (Release position) reply.Passed is step = subst P (sym step.1) is
  base_step old new (Grow position from to) reply.Passed is step = subst P (sym step) is
  base_step old new (Shrink position from to) reply.Passed is step = subst P (sym step) is
  base_step old new command other is step = absurd step

  resizable_step : (old new : List Chunk) (command : Command) (answer : Reply) → P old →
      ResizableStep object old command answer new → P new
  resizable_step old new (Allocate layout) answer is step = base_step old new (Allocate layout) answer is step
  resizable_step old new (Release position) answer is step = base_step old new (Release position) answer is step
  resizable_step old new (Grow position from to) (reply.Chunk resized) is (chunk, may, told, resizes) =
      subst P (sym resizes.leaves) (kept.grown old position chunk resized from to is may told resizes.place)
  resizable_step old new (Grow position from to) (reply.GrowRefused error) is (chunk, may, told, same) = subst P (sym same) is
  resizable_step old new (Grow position from to) reply.Passed is step = subst P (sym step.1) is
  resizable_step old new (Shrink position from to) (reply.Chunk resized) is (chunk, may, told, resizes) =
      subst P (sym resizes.leaves) (kept.shrunk old position chunk resized from to is may told resizes.place)
  resizable_step old new (Shrink position from to) (reply.ShrinkRefused error) is (chunk, may, told, same) = subst P (sym same) is
  resizable_step old new (Shrink position from to) reply.Passed is step = subst P (sym step.1) is
  resizable_step old new command other is step = absurd step

  pub run_keeps : (live new : List Chunk) (commands : List Command) (replies : List Reply) → P live →
      IsRun (ResizableStep object) live commands replies new → P new
  run_keeps = IsRun-keeps (ResizableStep object) P resizable_step

  -- without resizes
  pub base_run_keeps : (live new : List Chunk) (commands : List Command) (replies : List Reply) → P live →
      IsRun (Step object.base) live commands replies new → P new
  base_run_keeps = IsRun-keeps (Step object.base) P base_step
