use Rattle.scripts.proofs.Telling.{told_more}
use Rattle.scripts.proofs.driving.run_lines.Goals as goal
use Rattle.std.proofs.Common.{[], ap, refl, sym, take, take_all, ◌++◌, ◌+◌, ◌∙◌, ◌∷◌, ◌≡◌}
use Rattle.std.proofs.lemmas.List.{take_more}

pub loop-line-init : goal.loop-line-init
loop-line-init g c = (refl, c.new-waiting.ensures.items, c.new-text.ensures.items)

pub loop-line-preserved : goal.loop-line-preserved
loop-line-preserved g c =
    let script = c.args.script.now in
    let i = c.loop-line.line-index in
    let line = c.line-item.result in
    let (added, step, grown) = c.in_ok-run_line.ensures in
    let longer : take (i + 1) script ≡ take i script ++ line ∷ [] =
    take_more script i line c.loop-line-test.true ∙ ap (λ x. take i script ++ x ∷ []) (sym c.line-item.is) in
    rw (longer, grown)
    (told_more g.K.ScriptKind.rules c.in_ok-state.state c.loop-line.state c.run_line.new.state [] c.loop-line.waiting.items
    c.run_line.new.waiting.items (take i script) line c.loop-line.text.items added c.loop-line.invariant step)

pub returns : goal.returns
returns g c =
    let (replies, runs, told) = c.in_ok-write_replies.ensures in
    let all = take_all c.loop-line.line-index c.args.script.now c.loop-line-test.false in (
      c.in_ok-state.state,
      c.write_replies.new.state,
      c.in_ok-state.ensures,
      (
        c.loop-line.state,
        c.loop-line.waiting.items,
        c.loop-line.text.items,
        replies,
        rw all at c.loop-line.invariant,
        rw c.deref.ensures.value at runs,
        told,
      ),
    )
