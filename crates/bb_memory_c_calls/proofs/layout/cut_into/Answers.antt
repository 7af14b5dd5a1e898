use Rattle.bb_memory_c_calls.proofs.Layouts.{not_fails, of_this}
use Rattle.bb_memory_c_calls.proofs.layout.cut_into.Goals.{then-parties-eq0-via-else-parties-eq0+then-not-can_make, then-parties-eq0-via-then-parties-eq0}
use Rattle.bb_memory_c_calls.proofs.layout.cut_into.Goals as goal
use Rattle.bb_memory_c_calls.specs.Calls.{MayBeShared}
use Rattle.bb_memory_owned.specs.Pool.{CountedPool}
use Rattle.bb_memory_traits.specs.Chunk.{region_at}
use Rattle.std.proofs.Common.{ap, arith, refl, ◌<◌}
use Rattle.std.proofs.lemmas.Bool.{false≢true}

not_may : (c : goal.Joined-then-parties-eq0) →
    ¬ MayBeShared (region_at c.args.start c.args.size) c.args.parties c.in-Some.bucket
not_may c may = elim c.then-parties-eq0.branch [
  | then-parties-eq0-via-then-parties-eq0 w ↦ absurd (omega (arith, may.0, w.if-parties-eq0.true))
  | then-parties-eq0-via-else-parties-eq0+then-not-can_make w ↦ false≢true (w.if-not-can_make.ensures.1 may.1)
]

pub returns-then-parties-eq0-clause-invalid_argument : goal.returns-then-parties-eq0-clause-invalid_argument
returns-then-parties-eq0-clause-invalid_argument c = (λ _. (c.in-Some.bucket, c.in-Some.ensures.of, not_may c), λ _. refl)

pub returns-then-parties-eq0-clause-no_bucket : goal.returns-then-parties-eq0-clause-no_bucket
returns-then-parties-eq0-clause-no_bucket c = (
  λ wrong. absurd (cc),
  λ lacks. absurd (not_may c (of_this _ _ (MayBeShared (region_at c.args.start c.args.size) c.args.parties) c.in-Some.bucket
      c.in-Some.ensures.of (lacks.0, lacks.1, lacks.2))),
)

pub returns-then-number_of_buckets-eq0-clause-invalid_argument : goal.returns-then-number_of_buckets-eq0-clause-invalid_argument
returns-then-number_of_buckets-eq0-clause-invalid_argument c = (
  λ wrong. absurd (cc),
  λ fails. absurd (not_fails _ _ _ _
      c.in-Some.ensures.of (omega (arith, c.if-parties-eq0.false), c.can_make.ensures.0 c.if-not-can_make.false) fails),
)

pub returns-then-number_of_buckets-eq0-clause-no_bucket : goal.returns-then-number_of_buckets-eq0-clause-no_bucket
returns-then-number_of_buckets-eq0-clause-no_bucket c =
    let may : MayBeShared (region_at c.args.start c.args.size) c.args.parties c.in-Some.bucket =
    (omega (arith, c.if-parties-eq0.false), c.can_make.ensures.0 c.if-not-can_make.false) in
    let cut = c.new.ensures.value in (
      λ _. (
        c.in-Some.bucket,
        c.in-Some.ensures.of,
        may,
        λ has.
            let below : 0 < cut.0.buckets = (cut.1.filled 0).1 (rw (cut.1.region, cut.1.bucket) has) in
            omega (arith, ap (λ (p : CountedPool). p.pool.geometry.buckets) cut.2),
      ),
      λ _. refl,
    )

pub returns-clause-invalid_argument : goal.returns-clause-invalid_argument
returns-clause-invalid_argument c = (
  λ wrong. absurd (cc),
  λ fails. absurd (not_fails _ _ _ _
      c.in-Some.ensures.of (omega (arith, c.if-parties-eq0.false), c.can_make.ensures.0 c.if-not-can_make.false) fails),
)
