use Rattle.scripts.proofs.ScriptLines.{unread_line}
use Rattle.scripts.proofs.driving.read_line.Goals as goal
use Rattle.scripts.specs.Words.{words}
use Rattle.std.proofs.Common.{IsTrue, arith, codes, ◌≡◌}

pub returns-in_err-read-clause-unreadable : goal.returns-in_err-read-clause-unreadable
returns-in_err-read-clause-unreadable g c =
    let rules = g.K.ScriptKind.rules in
    let no_show : IsTrue rules.can_show → c.args.text.now ≡ codes "show" → ⊥ = grind arith in
    rw c.from_residual-in_err-read.ensures (unread_line rules (words c.in_ok-name.name.now c.in_ok-name.numbers)
    c.args.text.now c.in_ok-name.ensures.written c.in_err-read.ensures.each no_show)
