use Rattle.scripts.proofs.Numbers.{IsPlain-writes, decimal_text, read_gives, read_writes}
use Rattle.scripts.proofs.words.number.Goals as goal
use Rattle.std.proofs.Common.{arith, rules, ◌∙◌}

pub returns-then-not-is_plain-clause-each : goal.returns-then-not-is_plain-clause-each
returns-then-not-is_plain-clause-each c n small e =
    let plain = IsPlain-writes c.args.field.now n small e in
    search rules

pub returns-in-Ok-clause-written : goal.returns-in-Ok-clause-written
returns-in-Ok-clause-written c = grind (arith, read_writes)

pub returns-in-Ok-clause-each : goal.returns-in-Ok-clause-each
returns-in-Ok-clause-each c n small e =
    let text = c.in-Ok.ensures.cases.0 in
    c.ok.ensures.value ∙ read_gives c.args.field.now c.parse.result n (rw text at c.parse.ensures.value.0) small e

pub returns-in-Err-clause-each : goal.returns-in-Err-clause-each
returns-in-Err-clause-each c n small e = absurd (c.in-Err.ensures.cases.0 (decimal_text c.args.field.now n small e))
