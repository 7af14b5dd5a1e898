use Rattle.bb_memory_traits.proofs.Cuts.{buckets-fit, stride-positive}
use Rattle.bb_memory_traits.proofs.Factors.{divided-part, divided-whole}
use Rattle.bb_memory_traits.proofs.geometry.Geometry.whole_strides.Goals as goal
use Rattle.bb_memory_traits.specs.PoolObject.{PoolGeometry, stride}
use Rattle.std.proofs.Common.{ap, arith, inl, inr, sym, ◌%◌, ◌*◌, ◌/◌, ◌<◌, ◌^◌, ◌∙◌}
use Rattle.std.proofs.lemmas.Bool.{cases_lt}

pub returns-clause-whole : goal.returns-clause-whole
returns-clause-whole c whole =
    let kept = sym c.self.invariant.strides in
    let step = sym (ap (λ (g : PoolGeometry). stride g.bucket) c.self.view_is) ∙ kept in
    c.rotate_right.ensures
    ∙ divided-whole _ _ _ c.self.invariant.factored c.args.distance c.ranges.distance.fits
    (ap (λ n. c.args.distance % n) (sym step) ∙ whole)
    ∙ ap (λ n. c.args.distance / n) (sym step)

pub returns-clause-part : goal.returns-clause-part
returns-clause-part c part =
    let geometry : PoolGeometry = c.args.self.now in
    let kept = sym c.self.invariant.strides in
    let step = sym (ap (λ (g : PoolGeometry). stride g.bucket) c.self.view_is) ∙ kept in
    let fit : geometry.buckets * stride geometry.bucket < 2 ^ 64 =
    rw (← c.self.view_is) (buckets-fit _ c.self.invariant.is_region c.self.invariant.is_geometry) in
    elim (cases_lt c.rotate_right.result geometry.buckets) [
      | inl below ↦
          absurd (part (ap (λ n. c.args.distance % n) step
          ∙ divided-part _ _ _ c.self.invariant.factored c.args.distance geometry.buckets c.ranges.distance.fits
          (omega (arith, fit, ap (λ n. geometry.buckets * n) step)) (omega (arith, below, c.rotate_right.ensures))))
      | inr most ↦ most
    ]

pub returns-clause-some : goal.returns-clause-some
returns-clause-some c =
    rw (← c.self.view_is) (stride-positive c.self.inside.bucket c.self.invariant.is_geometry.filled)
