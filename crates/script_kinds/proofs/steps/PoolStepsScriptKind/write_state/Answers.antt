use Rattle.script_kinds.proofs.Telling.{holders_more}
use Rattle.script_kinds.proofs.steps.PoolStepsScriptKind.write_state.Goals.{in-None+in_ok-extend_from_slice-in-None as none, in-Some+in_ok-write_number-in-Some as some}
use Rattle.script_kinds.proofs.steps.PoolStepsScriptKind.write_state.Goals as goal
use Rattle.script_kinds.specs.Steps.{holder_text}
use Rattle.std.proofs.Common.{ap, arith, codes, length, ◌++◌, ◌<◌, ◌∙◌, ◌≡◌}

pub loop-bucket-preserved : goal.loop-bucket-preserved
loop-bucket-preserved c =
    let flags = c.args.world.now.flags in
    let bucket = c.loop-bucket.bucket in
    let before = c.loop-bucket.line.items in
    let below : bucket < length flags = omega (arith, c.number_of_buckets-bucket-end.ensures) in
    let more : c.match-holder.line.items ≡ before ++ holder_text c.holder.result =
    elim c.match-holder.branch [
      | some w ↦
          rw w.in-Some.is (ap (λ l. l.items) w.line-is ∙ w.in_ok-write_number-in-Some.ensures)
      | none w ↦
          rw w.in-None.is (ap (λ l. l.items) w.line-is ∙ w.in_ok-extend_from_slice-in-None.ensures.items)
    ] in
    holders_more (c.args.line.now.items ++ codes "held") before c.match-holder.line.items flags bucket below
    c.loop-bucket.invariant (rw c.holder.ensures at more)
