use Rattle.script_kinds.proofs.loan_pool.LoanPoolScriptKind.run.Goals as goal
use Rattle.std.proofs.Common.{rules}

pub returns : goal.returns
returns c = record {
  run = c.in_ok-replies.ensures.run;
  remembered = search rules;
  geometry = c.in_ok-replies.ensures.geometry;
  stands = c.in_ok-replies.ensures.stands;
}
