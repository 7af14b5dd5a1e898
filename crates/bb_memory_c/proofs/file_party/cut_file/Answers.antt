use Rattle.bb_memory_c.proofs.FileCuts.{none-made}
use Rattle.bb_memory_c.proofs.file_party.cut_file.Goals as goal
use Rattle.bb_memory_c.specs.Files.{MayHave, cutting_file}
use Rattle.bb_memory_c_calls.proofs.Layouts.{is_layout, not_fails}
use Rattle.bb_memory_traits.specs.Chunk.{region_at}
use Rattle.std.proofs.Common.{Err, Result, ap, arith, refl, rules, sym, ℕ, ◌<◌, ◌∙◌, ◌≡◌}

same_err : {T : Type 0} {one other : ℕ} → ◌≡◌ {A = Result T ℕ} (Err one) (Err other) → one ≡ other
same_err is = cc

pub returns-in-Some-layout_of-clause-invalid_argument : goal.returns-in-Some-layout_of-clause-invalid_argument
returns-in-Some-layout_of-clause-invalid_argument c = (
  λ _. (
    c.in-Some-layout_of.field-0,
    c.in-Some-layout_of.ensures.of,
    λ may. none-made c.args.buckets c.args.slots _ c.of.ensures.geometry (search rules) may.1,
  ),
  λ _. refl,
)

pub returns-in_err-bucket-clause-invalid_argument : goal.returns-in_err-bucket-clause-invalid_argument
returns-in_err-bucket-clause-invalid_argument c =
    let have : MayHave c.args.buckets c.args.slots = search rules in
    let same : c.from_residual.result ≡ Err c.in_err-bucket.field-0.0 = search rules in
    let code : c.cut_into.result ≡ Err c.in_err-bucket.field-0.0 = c.in_err-bucket.was in
    let told = c.cut_into.ensures.invalid_argument in (
      λ is.
          let fails = told.0 (code ∙ ap Err (same_err (sym same ∙ is))) in
          (fails.0, fails.1, λ may. fails.2 may.0),
      λ fails. same ∙ ap Err (same_err (sym code ∙ told.1 (fails.0, fails.1, λ may. fails.2 (may, have)))),
    )

pub returns-in_err-bucket-clause-no_bucket : goal.returns-in_err-bucket-clause-no_bucket
returns-in_err-bucket-clause-no_bucket c =
    let have : MayHave c.args.buckets c.args.slots = search rules in
    let same : c.from_residual.result ≡ Err c.in_err-bucket.field-0.0 = search rules in
    let code : c.cut_into.result ≡ Err c.in_err-bucket.field-0.0 = c.in_err-bucket.was in
    let cut = c.cut_into.ensures in (
      λ is.
          let lacks = cut.no_bucket.0 (code ∙ ap Err (same_err (sym same ∙ is))) in
          (lacks.0, lacks.1, (lacks.2, have), λ room. lacks.3 room.0),
      λ lacks. same ∙ ap Err (c.in_err-bucket.ensures.others
          (λ wrong. cut.invalid_layout.0 (code ∙ ap Err wrong) (is_layout _ _ lacks.0 lacks.1))
          (λ wrong. not_fails _ _ _ lacks.0 lacks.1 lacks.2.0 (cut.invalid_argument.0 (code ∙ ap Err wrong)))),
    )

pub returns-then-count-buckets-clause-invalid_argument : goal.returns-then-count-buckets-clause-invalid_argument
returns-then-count-buckets-clause-invalid_argument c =
    let have : MayHave c.args.buckets c.args.slots = search rules in
    let cut = c.in_ok-bucket.ensures.cut in (
      λ wrong. absurd (cc),
      λ fails. absurd (not_fails _ _ (cutting_file (region_at c.args.start c.args.size) c.args.buckets c.args.slots c.args.parties).may
          c.in_ok-bucket.bucket cut.layout (cut.may, have) fails),
    )

pub returns-then-count-buckets-clause-no_bucket : goal.returns-then-count-buckets-clause-no_bucket
returns-then-count-buckets-clause-no_bucket c =
    let have : MayHave c.args.buckets c.args.slots = search rules in
    let cut = c.in_ok-bucket.ensures.cut in
    let all = c.new.ensures in (
      λ _. (
        c.in_ok-bucket.bucket,
        cut.layout,
        (cut.may, have),
        λ room.
            let there = room.1 c.count.result (omega (arith, c.if-count-buckets.true)) in
            let below : c.count.result < c.new.result.buckets = (all.filled c.count.result).1 (rw (all.region, all.bucket) there) in
            absurd (omega (arith, below, c.count.ensures.value)),
      ),
      λ _. refl,
    )

pub returns-clause-invalid_argument : goal.returns-clause-invalid_argument
returns-clause-invalid_argument c =
    let have : MayHave c.args.buckets c.args.slots = search rules in
    let cut = c.in_ok-bucket.ensures.cut in (
      λ wrong. absurd (cc),
      λ fails. absurd (not_fails _ _ (cutting_file (region_at c.args.start c.args.size) c.args.buckets c.args.slots c.args.parties).may
          c.in_ok-bucket.bucket cut.layout (cut.may, have) fails),
    )
