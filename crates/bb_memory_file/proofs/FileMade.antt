-- Each operation of a party is one that it makes, and each look is one of anybody.
use Rattle.bb_memory_file.specs.FileOperations.{AreLooks, AreMade, IsLook, IsMade}
use Rattle.bb_memory_file.specs.Recorded.{WordEvent}
use Rattle.bb_memory_file.specs.declared.geometry.FileGeometry.{FileGeometry}
use Rattle.std.proofs.Common.{List, subst, sym, ℕ, ◌∷◌, ◌≡◌}
use mathlib.Core.Logic.{∥∥₁_map}

-- one more operation is recorded
pub made_on : (geometry : FileGeometry) (party : ℕ) (operation : WordEvent) (before after : List WordEvent) →
    ∥ AreMade geometry party before ∥₁ → after ≡ operation ∷ before → IsMade geometry party operation →
    ∥ AreMade geometry party after ∥₁
made_on geometry party operation before after made more is =
    subst (λ (operations : List WordEvent). ∥ AreMade geometry party operations ∥₁) (sym more) (∥∥₁_map made (λ all. (is, all)))

-- one more look is recorded
pub looked_on : (geometry : FileGeometry) (look : WordEvent) (before after : List WordEvent) →
    ∥ AreLooks geometry before ∥₁ → after ≡ look ∷ before → IsLook geometry look → ∥ AreLooks geometry after ∥₁
looked_on geometry look before after looks more is =
    subst (λ (operations : List WordEvent). ∥ AreLooks geometry operations ∥₁) (sym more) (∥∥₁_map looks (λ all. (is, all)))
