use Rattle.bb_memory_file.proofs.FileSettlers.{settled_all, settling_back, settling_none, settling_on}
use Rattle.bb_memory_file.proofs.calls.settle.Goals.{else-detached, else-settle_bucket, then-detached, then-settle_bucket}
use Rattle.bb_memory_file.proofs.calls.settle.Goals as goal
use Rattle.bb_memory_file.specs.FileCode.{FileLog}
use Rattle.bb_memory_file.specs.FileSettlers.{IsSettledAt}
use Rattle.std.proofs.Common.{ap, arith, subst, sym, ◌+◌, ◌<◌, ◌∙◌, ◌≡◌}
use Rattle.std.specs.Prelude.{if◌then◌else◌}

pub loop-bucket-init : goal.loop-bucket-init
loop-bucket-init g c = record {
  settling = λ process. settling_none process (g.W.Words.log c.args.words.now) c.args.detached;
  end = c.buckets-bucket-end.ensures;
  count = omega arith;
}

pub recover-requires : goal.recover-requires
recover-requires g c =
    let same = ap (λ (log : FileLog). log.scene.buckets) (c.loop-bucket.invariant.settling 0).gets in
    rw (same ∙ sym c.loop-bucket.invariant.end) c.loop-bucket-test.true

pub settle_bucket-requires : goal.settle_bucket-requires
settle_bucket-requires g c =
    let same = ap (λ (log : FileLog). log.scene.buckets) (c.loop-bucket.invariant.settling 0).gets in
    let below : c.loop-bucket.bucket < (g.W.Words.log c.loop-bucket.words).scene.buckets =
    rw (same ∙ sym c.loop-bucket.invariant.end) c.loop-bucket-test.true in
    elim c.if-detached.branch [
      | then-detached w ↦
          let same' = ap (λ (log : FileLog). log.scene.buckets) (w.recover.ensures 0).gets in
          subst (λ (words : g.row.W.Denot). c.loop-bucket.bucket < (g.W.Words.log words).scene.buckets) (sym w.words-is)
          (rw same' below)
      | else-detached w ↦
          subst (λ (words : g.row.W.Denot). c.loop-bucket.bucket < (g.W.Words.log words).scene.buckets) (sym w.words-is) below
    ]

pub overflow_add-freed : goal.overflow_add-freed
overflow_add-freed g c =
    let count = c.loop-bucket.invariant.count in
    let below = c.loop-bucket-test.true in
    let fits = c.buckets-bucket-end.type_inv in omega (arith, count, below, fits)

pub loop-bucket-preserved : goal.loop-bucket-preserved
loop-bucket-preserved g c =
    let count : c.if-settle_bucket.freed ≡ c.loop-bucket.freed + (if c.settle_bucket.result then 1 else 0) =
    elim c.if-settle_bucket.branch [
      | then-settle_bucket w ↦ rw w.if-settle_bucket.true w.freed-is
      | else-settle_bucket w ↦ let is = w.freed-is in rw w.if-settle_bucket.false (omega (arith, is))
    ] in
    record {
      settling = λ process. elim c.if-detached.branch [
        | then-detached w ↦
            settling_back process (g.W.Words.log c.args.words.now) (g.W.Words.log c.loop-bucket.words) _ c.args.detached
            c.loop-bucket.bucket c.loop-bucket.freed c.if-settle_bucket.freed c.settle_bucket.result count
            (c.loop-bucket.invariant.settling process) (g.W.Words.log w.recover.new.words) (w.recover.ensures process)
            (subst (λ (words : g.row.W.Denot). IsSettledAt process (g.W.Words.log words) c.loop-bucket.bucket c.settle_bucket.result
            (g.W.Words.log c.settle_bucket.new.words)) w.words-is (c.settle_bucket.ensures process)) w.if-detached.true
        | else-detached w ↦
            settling_on process (g.W.Words.log c.args.words.now) (g.W.Words.log c.loop-bucket.words) _ c.args.detached
            c.loop-bucket.bucket c.loop-bucket.freed c.if-settle_bucket.freed c.settle_bucket.result count
            (c.loop-bucket.invariant.settling process) w.if-detached.false
            (subst (λ (words : g.row.W.Denot). IsSettledAt process (g.W.Words.log words) c.loop-bucket.bucket c.settle_bucket.result
            (g.W.Words.log c.settle_bucket.new.words)) w.words-is (c.settle_bucket.ensures process))
      ];
      end = c.loop-bucket.invariant.end;
      count = elim c.if-settle_bucket.branch [
        | then-settle_bucket w ↦ let is = w.freed-is in let before = c.loop-bucket.invariant.count in omega (arith, is, before)
        | else-settle_bucket w ↦ let is = w.freed-is in let before = c.loop-bucket.invariant.count in omega (arith, is, before)
      ];
    }

pub returns : goal.returns
returns g c process =
    settled_all process (g.W.Words.log c.args.words.now) (g.W.Words.log c.loop-bucket.words) c.args.detached c.loop-bucket.bucket
    c.loop-bucket.freed (c.loop-bucket.invariant.settling process)
    (rw (sym c.loop-bucket.invariant.end) c.loop-bucket-test.false)
