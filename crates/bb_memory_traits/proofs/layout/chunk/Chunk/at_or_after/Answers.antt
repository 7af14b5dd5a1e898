use Rattle.bb_memory_traits.proofs.LeastPlaces.{least_place-behind, least_place-is, least_place-multiple}
use Rattle.bb_memory_traits.proofs.PowersOfTwo.{power_of_two-from_test}
use Rattle.bb_memory_traits.proofs.layout.chunk.Chunk.at_or_after.Goals as goal
use Rattle.bb_memory_traits.specs.Chunk.{Chunk, Layout}
use Rattle.bb_memory_traits.specs.LeastPlace.{least_place}
use Rattle.std.proofs.Common.{ap, arith, bit_or, ℕ, ◌%◌, ◌+◌, ◌-◌, ◌<◌, ◌∙◌, ◌≡◌}

-- the mask makes the place of a layout
place-behind : (v : ℕ) (layout : Layout) → 0 < v → bit_or (v - 1) (layout.align - 1) + 1 ≡ least_place v layout.align
place-behind v layout = least_place-behind v layout.align (power_of_two-from_test layout.align layout.valid.power_of_two)

pub returns-then-size-saturating_sub-clause-value : goal.returns-then-size-saturating_sub-clause-value
returns-then-size-saturating_sub-clause-value c = grind (arith, bit_or, place-behind)

pub returns-clause-value : goal.returns-clause-value
returns-clause-value c = grind (arith, bit_or, place-behind)

pub returns-clause-above : goal.returns-clause-above
returns-clause-above c =
    let place = ap (λ (k : Chunk). k.place) (returns-clause-value c).1 in
    omega (arith, place, (least_place-is c.args.v c.args.layout.align c.args.layout.valid.positive).above)

pub returns-clause-aligned : goal.returns-clause-aligned
returns-clause-aligned c =
    ap (λ (k : Chunk). k.place % c.args.layout.align) (returns-clause-value c).1
    ∙ least_place-multiple c.args.v c.args.layout.align c.args.layout.valid.positive
