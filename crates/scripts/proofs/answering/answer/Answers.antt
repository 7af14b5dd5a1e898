use Rattle.scripts.proofs.Sending.{ends_done, ends_refused, ends_unreadable}
use Rattle.scripts.proofs.answering.answer.Goals as goal
use Rattle.scripts.specs.Words.{unreadable_text}
use Rattle.std.proofs.Common.{ap, ◌++◌, ◌∙◌}

pub returns-in-Answered : goal.returns-in-Answered
returns-in-Answered g c =
    ends_done c.args.input.now _ _ c.in-Answered.text.items c.send.result c.in-Answered.ensures
    (rw c.deref.ensures.value at c.send.ensures)

pub returns-in-Ok : goal.returns-in-Ok
returns-in-Ok g c =
    let number = c.in-Unreadable.number in
    let line = c.in-Ok.ensures ∙ ap (λ l. l ++ unreadable_text number) c.new-line.ensures.items in
    ends_unreadable c.args.input.now _ _ number c.send-in-Ok.result c.in-Unreadable.ensures
    (rw (c.deref-in-Ok.ensures.value, line) at c.send-in-Ok.ensures)

pub returns : goal.returns
returns g c = ends_refused c.args.input.now _
