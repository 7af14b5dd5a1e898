-- A budget of chunks over an allocator.
use Rattle.bb_memory_traits.specs.Chunk.{Chunk}
use Rattle.bb_memory_traits.specs.declared.allocator.AllocationError.{AllocationError}
use Rattle.bb_memory_traits.specs.declared.layout.Layout.{Layout}
use Rattle.std.specs.Prelude.{Result, ℕ, ◌<◌, ◌≡◌, ◌≤◌}

-- an allocator with a budget: the allocator below, how many chunks may be in use, and how many are
pub record Budgeted (A : Type 0) : Type 0 where
  pub inner : A
  pub budget : ℕ
  pub out : ℕ

-- the geometry of an allocator with a budget: that of the allocator below, and how many chunks may
-- be in use
pub record Limited (G : Type 0) : Type 0 where
  pub inner : G
  pub budget : ℕ

-- The effect of a request on the value of an allocator with a budget, if the allocator below
-- promises `takes`: if the budget is spent, nothing changes; otherwise the allocator below got the
-- request.
pub record TakesWithin {A : Type 0} (takes : A → Layout → Result Chunk AllocationError → A → Type 0) (old : Budgeted A)
    (layout : Layout) (answer : Result Chunk AllocationError) (new : Budgeted A) : Type 0 where
  pub spent : old.budget ≤ old.out → new ≡ old
  pub below : old.out < old.budget → takes old.inner layout answer new.inner
