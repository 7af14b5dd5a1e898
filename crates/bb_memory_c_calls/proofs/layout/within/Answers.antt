use Rattle.bb_memory_c_calls.proofs.Alignments.{apart, passes}
use Rattle.bb_memory_c_calls.proofs.layout.within.Goals as goal
use Rattle.bb_memory_traits.proofs.Layouts.{within-valid}
use Rattle.std.proofs.Common.{arith, refl, ◌≡◌, ◌≤◌}
use Rattle.std.proofs.lemmas.Bool.{false≢true}

pub returns-then-align-below-ne0-clause-some : goal.returns-then-align-below-ne0-clause-some
returns-then-align-below-ne0-clause-some c = (
  λ is. absurd (false≢true is),
  λ has. absurd (c.if-align-below-ne0.true (apart c.args.align c.ranges.align.fits has.2)),
)

pub invariant_of-result : goal.invariant_of-result
invariant_of-result c =
    let is = passes c.args.align c.align.result c.ranges.align.fits c.align.type_inv c.if-align-below-ne0.false c.if-below-align.false in
    let short : c.args.size ≤ c.args.limit.size = omega (arith, c.if-size.false, c.size.ensures) in
    let low : c.args.align ≤ c.args.limit.align = omega (arith, is.0, c.align.ensures.value) in
    let same : c.min-align.result ≡ c.args.align = omega (arith, low, c.align-2.ensures.value, c.min-align.ensures) in
    record { valid = rw same (within-valid c.args.size c.args.align c.args.limit short low is.1) }

pub returns-clause-some : goal.returns-clause-some
returns-clause-some c =
    let is = passes c.args.align c.align.result c.ranges.align.fits c.align.type_inv c.if-align-below-ne0.false c.if-below-align.false in (
      λ yes. (omega (arith, c.if-size.false, c.size.ensures), omega (arith, is.0, c.align.ensures.value), is.1),
      λ has. refl,
    )
