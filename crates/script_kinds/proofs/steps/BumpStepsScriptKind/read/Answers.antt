use Rattle.bb_memory_bump_machine.specs.declared.steps.bump.BumpStep.TheVariants.{Read}
use Rattle.script_kinds.proofs.Layouts.{reads_three}
use Rattle.script_kinds.proofs.steps.BumpStepsScriptKind.read.Goals as goal
use Rattle.std.proofs.Common.{None, Some, ap, sym, ◌∙◌}

pub returns-in_ok-layout-in-Three-clause-each : goal.returns-in_ok-layout-in-Three-clause-each
returns-in_ok-layout-in-Three-clause-each c step is name numbers =
    let three = c.in-Three in
    let made = c.in_ok-layout-in-Three in
    ap (λ party. Some (Read party made.layout)) c.in_ok-party-in-Three.ensures.1
    ∙ reads_three (Some made.layout) three.party three.size three.align step made.ensures.each (sym three.is ∙ numbers)

pub returns-in_err-layout-in-Three-clause-each : goal.returns-in_err-layout-in-Three-clause-each
returns-in_err-layout-in-Three-clause-each c step is name numbers =
    let three = c.in-Three in
    c.from_residual-in_err-layout-in-Three.ensures
    ∙ reads_three None three.party three.size three.align step c.in_err-layout-in-Three.ensures.each (sym three.is ∙ numbers)
