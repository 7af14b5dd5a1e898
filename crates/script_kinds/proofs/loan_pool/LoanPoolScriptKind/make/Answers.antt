use Rattle.script_kinds.proofs.loan_pool.LoanPoolScriptKind.make.Goals as goal
use Rattle.script_kinds.specs.Allocators.{BeginsPool}
use Rattle.std.proofs.Common.{subst, sym}

pub returns : goal.returns
returns c = record {
  pool = subst (BeginsPool c.args.header) (sym c.new.ensures.allocator) c.in_ok-pool.ensures.starts;
  book = c.new.ensures.book;
}
