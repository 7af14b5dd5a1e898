use Rattle.bb_memory_file.proofs.FileCounts.{counted_all, counted_most, counts_unused, counts_used}
use Rattle.bb_memory_file.proofs.joined.Joined.held.Goals.{in-InUse, in_default}
use Rattle.bb_memory_file.proofs.joined.Joined.held.Goals as goal
use Rattle.bb_memory_file.specs.FileNotes.{JoinedParty, Note}
use Rattle.std.proofs.Common.{Some, ap, arith, length, refl, sym, ◌∙◌, ◌≡◌}
use Rattle.std.proofs.lemmas.Option.{slice_get-get_or}
use Rattle.std.specs.Prelude.{slice_get}

pub loop-bucket-init : goal.loop-bucket-init
loop-bucket-init g c = refl

pub overflow_add-used : goal.overflow_add-used
overflow_add-used g c =
    let notes = c.args.self.now.notes in
    let long : length notes ≡ c.buckets-bucket-end.result =
    ap (λ (p : JoinedParty g.row.W.Denot). length p.notes) (sym c.self.view_is) ∙ c.self.invariant.0.noted.enough
    ∙ sym c.buckets-bucket-end.ensures in
    let less = c.loop-bucket-test.true in
    let fits = c.buckets-bucket-end.type_inv in
    let most = counted_most notes c.loop-bucket.bucket c.loop-bucket.used c.loop-bucket.invariant (omega (arith, long, less)) in
    omega (arith, most, less, fits)

pub loop-bucket-preserved : goal.loop-bucket-preserved
loop-bucket-preserved g c =
    let notes = c.args.self.now.notes in
    let long = c.self.invariant.0.noted.enough in
    let all = c.buckets-bucket-end.ensures in
    let less = c.loop-bucket-test.true in
    let is : slice_get notes c.loop-bucket.bucket ≡ Some c.index.result.now =
    ap (λ (p : JoinedParty g.row.W.Denot). slice_get p.notes c.loop-bucket.bucket) (sym c.self.view_is)
    ∙ slice_get-get_or c.self.inside.notes.items c.loop-bucket.bucket c.index.result.now (omega (arith, long, all, less))
    ∙ ap (λ (n : Note). Some n) (sym c.index.ensures) in
    elim c.match-index.branch [
      | in-InUse w ↦ counts_used notes c.loop-bucket.bucket c.loop-bucket.used c.loop-bucket.invariant c.index.result.now
          c.match-index.used is w.in-InUse.is w.used-is
      | in_default w ↦ counts_unused notes c.loop-bucket.bucket c.loop-bucket.used c.loop-bucket.invariant c.index.result.now
          c.match-index.used is w.in_default.not-InUse w.in_default.not-Undone w.used-is
    ]

pub returns : goal.returns
returns g c =
    let long : length c.args.self.now.notes ≡ c.buckets-bucket-end.result =
    ap (λ (p : JoinedParty g.row.W.Denot). length p.notes) (sym c.self.view_is) ∙ c.self.invariant.0.noted.enough
    ∙ sym c.buckets-bucket-end.ensures in
    let past = c.loop-bucket-test.false in
    counted_all c.args.self.now.notes c.loop-bucket.bucket c.loop-bucket.used c.loop-bucket.invariant (omega (arith, long, past))
