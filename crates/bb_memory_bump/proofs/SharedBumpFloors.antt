-- The positions that meetings found remain at most the bump's position, as views change.
use Rattle.atomic_table.proofs.Lists.{at_set, at_snoc}
use Rattle.bb_memory_bump.specs.SharedBumpRule.{SeatView, met_by}
use Rattle.std.proofs.Common.{List, [], arith, set, ℕ, ◌++◌, ◌∷◌, ◌≡◌, ◌≤◌}
use lib.ListN.{get_elem?}
use mathlib.Core.Option.{some}

-- no view's last meeting found more than this
abbrev pub HaveMetBelow : List SeatView → ℕ → Type 0
HaveMetBelow views most = (seat : ℕ) (view : SeatView) → get_elem? views seat ≡ some view → met_by view ≤ most

pub met_set : (views : List SeatView) (seat : ℕ) (new : SeatView) (most more : ℕ) → HaveMetBelow views most → most ≤ more →
    met_by new ≤ more → HaveMetBelow (set views seat new) more
met_set views seat new most more below up here = grind (arith, at_set)

pub met_push : (views : List SeatView) (new : SeatView) (most : ℕ) → HaveMetBelow views most → met_by new ≤ most →
    HaveMetBelow (views ++ new ∷ []) most
met_push views new most below here = grind (arith, at_snoc)
