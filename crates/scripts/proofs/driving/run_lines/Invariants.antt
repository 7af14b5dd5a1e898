use Rattle.scripts.proofs.driving.run_lines.Given as goal
use Rattle.scripts.specs.Scripts.{IsTold}
use Rattle.std.proofs.Common.{[], take}

-- the lines so far have their replies
abbrev pub invariant-loop-line : goal.invariant-loop-line
invariant-loop-line g l =
    IsTold g.K.ScriptKind.rules l.initial.state [] (take l.line-index l.script) l.text.items l.state l.waiting.items
