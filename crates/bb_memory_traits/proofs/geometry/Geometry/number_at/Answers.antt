use Rattle.bb_memory_traits.proofs.Cuts.{distance-after, number-counted, number-leads}
use Rattle.bb_memory_traits.proofs.geometry.Geometry.number_at.Goals as goal
use Rattle.bb_memory_traits.specs.PoolObject.{PoolGeometry, stride}
use Rattle.std.proofs.Common.{ap, arith, inl, inr, ℕ, ◌%◌, ◌*◌, ◌+◌, ◌-◌, ◌^◌, ◌∙◌, ◌≡◌}
use Rattle.std.proofs.lemmas.Bool.{cases_eq}
use Rattle.std.proofs.lemmas.Nat.{div-add-mod'}

pub returns-then-number-count-clause-none : goal.returns-then-number-count-clause-none
returns-then-number-count-clause-none c at =
    let told = c.whole_strides-number.ensures in
    let past = distance-after c.first.result c.args.place (omega (arith, c.first.ensures, at.2)) c.ranges.place.fits in
    let same = number-counted c.args.self.now at.0 c.args.place _ _ (past ∙ ap (λ n. c.args.place - n) c.first.ensures)
    told.whole told.some at.2 in
    absurd (omega (arith, same, at.1, c.if-number-count.true, c.count.ensures.value))

pub returns-clause-one : goal.returns-clause-one
returns-clause-one c j at =
    let told = c.whole_strides-number.ensures in
    let past = distance-after c.first.result c.args.place (omega (arith, c.first.ensures, at)) c.ranges.place.fits in
    number-counted c.args.self.now j c.args.place _ _ (past ∙ ap (λ n. c.args.place - n) c.first.ensures)
    told.whole told.some at

pub returns-clause-there : goal.returns-clause-there
returns-clause-there c =
    let geometry : PoolGeometry = c.args.self.now in
    let told = c.whole_strides-number.ensures in
    let distance : ℕ = (c.args.place + (2 ^ 64 - c.first.result)) % 2 ^ 64 in
    elim (cases_eq (distance % stride geometry.bucket) 0) [
      | inl whole ↦
          let strides : distance ≡ c.whole_strides-number.result * stride geometry.bucket =
          omega (
            arith,
            div-add-mod' distance (stride geometry.bucket),
            whole,
            ap (λ n. n * stride geometry.bucket) (told.whole whole),
          ) in
          number-leads geometry c.first.result c.args.place c.whole_strides-number.result c.count.ensures.region
          c.count.ensures.geometry c.first.ensures c.ranges.place.fits
          (omega (arith, c.if-number-count.false, c.count.ensures.value)) strides
      | inr part ↦ absurd (omega (arith, told.part part, c.if-number-count.false, c.count.ensures.value))
    ]
