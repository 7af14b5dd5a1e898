use Rattle.script_kinds.proofs.Layouts.{new_made, old_made, reads_grow, reads_shrink, reads_two}
use Rattle.script_kinds.proofs.allocators.WithLiveListScriptKind.read.Goals as goal
use Rattle.std.proofs.Common.{None, Some, refl, sym, ◌∙◌}

pub returns-in_ok-layout-in-Two-clause-each : goal.returns-in_ok-layout-in-Two-clause-each
returns-in_ok-layout-in-Two-clause-each g c command is name numbers =
    let made = c.in_ok-layout-in-Two in
    reads_two (Some made.field-0) c.in-Two.size c.in-Two.align command made.ensures.each (sym c.in-Two.is ∙ numbers)

pub returns-in_err-layout-in-Two-clause-each : goal.returns-in_err-layout-in-Two-clause-each
returns-in_err-layout-in-Two-clause-each g c command is name numbers =
    c.from_residual.ensures
    ∙ reads_two None c.in-Two.size c.in-Two.align command c.in_err-layout-in-Two.ensures.each (sym c.in-Two.is ∙ numbers)

pub returns-in_err-old-in-Five-clause-each : goal.returns-in_err-old-in-Five-clause-each
returns-in_err-old-in-Five-clause-each g c command is name numbers =
    let five = c.in-Five in
    c.from_residual-in_err-old-in-Five.ensures
    ∙ old_made five.position five.old_size five.old_align five.size five.align command c.in_err-old-in-Five.ensures.each
    (sym five.is ∙ numbers)

pub returns-in_err-new-in-Five-clause-each : goal.returns-in_err-new-in-Five-clause-each
returns-in_err-new-in-Five-clause-each g c command is name numbers =
    let five = c.in-Five in
    c.from_residual-in_err-new-in-Five.ensures
    ∙ new_made five.position five.old_size five.old_align five.size five.align command c.in_err-new-in-Five.ensures.each
    (sym five.is ∙ numbers)

pub returns-then-is_word-3-clause-each : goal.returns-then-is_word-3-clause-each
returns-then-is_word-3-clause-each g c command is name numbers =
    let five = c.in-Five in
    reads_grow five.position five.old_size five.old_align five.size five.align c.in_ok-old-in-Five.old c.in_ok-new-in-Five.new
    c.args.name.now command c.in_ok-old-in-Five.ensures.each c.in_ok-new-in-Five.ensures.each (c.if-is_word-3.ensures.0 refl) name
    (sym five.is ∙ numbers)

pub returns-then-is_word-4-clause-each : goal.returns-then-is_word-4-clause-each
returns-then-is_word-4-clause-each g c command is name numbers =
    let five = c.in-Five in
    reads_shrink five.position five.old_size five.old_align five.size five.align c.in_ok-old-in-Five.old c.in_ok-new-in-Five.new
    c.args.name.now command c.in_ok-old-in-Five.ensures.each c.in_ok-new-in-Five.ensures.each (c.if-is_word-4.ensures.0 refl) name
    (sym five.is ∙ numbers)
