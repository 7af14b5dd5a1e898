-- Answers to resizes of a chunk at its place: there is exactly one.
use Rattle.bb_memory_traits.specs.Chunk.{Chunk, Layout}
use Rattle.bb_memory_traits.specs.Object.{AllocationGrowError, AllocationShrinkError, MayGrowAt, MayShrinkAt}
use Rattle.bb_memory_traits.specs.declared.allocator.AllocationGrowError.TheVariants as grow
use Rattle.bb_memory_traits.specs.declared.allocator.AllocationShrinkError.TheVariants as shrink
use Rattle.std.proofs.Common.{Err, Ok, Result, ap, arith, inl, inr, refl, sym, ℕ, ◌∙◌, ◌≡◌}
use Rattle.std.proofs.lemmas.Bool.{cases_lt}

pub some_grow : (reserved most len place : ℕ) (old new : Layout) →
    (answer : Result Chunk AllocationGrowError) × MayGrowAt reserved most len place old new answer
some_grow reserved most len place old new =
    elim (cases_lt old.size new.size) [
      | inr smaller ↦ (Err grow.GrowWouldShrink, smaller)
      | inl longer ↦ elim (cases_lt most new.align) [
        | inl coarse ↦ (Err grow.AlignmentFailure, (longer, coarse))
        | inr fine ↦ elim (cases_lt reserved new.size) [
          | inl far ↦ (Err grow.OutOfMemory, (longer, fine, far))
          | inr near ↦ (Ok (record { place = place; len = len }), (longer, fine, near, refl))
        ]
      ]
    ]

pub one_grow : (reserved most len place : ℕ) (old new : Layout) (one other : Result Chunk AllocationGrowError) →
    MayGrowAt reserved most len place old new one → MayGrowAt reserved most len place old new other → one ≡ other
one_grow reserved most len place old new (Ok c) (Ok d) first second = ap Ok (first.3 ∙ sym second.3)
one_grow reserved most len place old new one other first second = grind (arith, first, second)

pub some_shrink : (most place : ℕ) (old new : Layout) →
    (answer : Result Chunk AllocationShrinkError) × MayShrinkAt most place old new answer
some_shrink most place old new =
    elim (cases_lt new.size old.size) [
      | inr larger ↦ (Err shrink.ShrinkWouldGrow, larger)
      | inl smaller ↦ elim (cases_lt most new.align) [
        | inl coarse ↦ (Err shrink.AlignmentFailure, (smaller, coarse))
        | inr fine ↦ (Ok (record { place = place; len = new.size }), (smaller, fine, refl))
      ]
    ]

pub one_shrink : (most place : ℕ) (old new : Layout) (one other : Result Chunk AllocationShrinkError) →
    MayShrinkAt most place old new one → MayShrinkAt most place old new other → one ≡ other
one_shrink most place old new (Ok c) (Ok d) first second = ap Ok (first.2 ∙ sym second.2)
one_shrink most place old new one other first second = grind (arith, first, second)
