-- Sets of numbers below a bound.
use Rattle.bb_memory_index_set.specs.IndexSets.{Has, IsFull, Lacks}
use Rattle.std.proofs.Common.{Bool, List, [], arith, inl, inr, length, refl, suc, sym, zero, ℕ, ◌<◌, ◌∙◌, ◌∷◌, ◌≡◌, ◌⊎◌}
use Rattle.std.proofs.lemmas.Option.{slice_get_within}
use Rattle.std.specs.Prelude.{Some, false, true}

-- a full set lacks no number
pub full_lacks_none : (set : List Bool) (number : ℕ) → IsFull set → Lacks set number → ⊥
full_lacks_none set number full lacks =
    let both : Some false ≡ Some true = sym lacks ∙ full number (slice_get_within set number false lacks) in cc

-- a number below the bound is in the set or not
pub has_or_lacks : (set : List Bool) (i : ℕ) → i < length set → Has set i ⊎ Lacks set i
has_or_lacks [] i below = absurd (omega arith)
has_or_lacks (true ∷ set) zero below = inl refl
has_or_lacks (false ∷ set) zero below = inr refl
has_or_lacks (flag ∷ set) (suc i) below = has_or_lacks set i (omega arith)
