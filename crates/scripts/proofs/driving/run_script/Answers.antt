use Rattle.scripts.proofs.Tables.{answered_here, unreadable_here}
use Rattle.scripts.proofs.driving.run_script.Goals as goal
use Rattle.scripts.specs.Words.{lines_of}

pub returns-in-Ok-Err : goal.returns-in-Ok-Err
returns-in-Ok-Err g c =
    let unread = rw c.in-Ok-Err.field-0-is at c.in-Ok-Err.ensures.unreadable in
    unreadable_here g.K.ScriptKind.rules c.args.header (lines_of c.args.rest.now) c.in-Ok-Err.index c.requires.header
    c.requires.stand unread

pub returns-in-Ok : goal.returns-in-Ok
returns-in-Ok g c =
    let read = rw c.in-Ok-Ok.field-0-is at c.in-Ok-Ok.ensures.read in
    answered_here g.K.ScriptKind.rules c.args.header (lines_of c.args.rest.now) c.in-Ok-Ok.script.items _ c.requires.header
    c.requires.stand read (rw c.deref.ensures.value at c.in-Ok.ensures)
