use Rattle.bb_memory_c.proofs.shared_pool.JoinedPool.return_each.Given as goal
use Rattle.bb_memory_c.specs.SharedPools.{TellsReturnNumber}
use Rattle.bb_memory_c_calls.specs.Calls.{AtEach}
use Rattle.bb_memory_c_calls.specs.declared.code.TheConstants.{OK as ok}
use Rattle.std.proofs.Common.{take, ◌≡◌}

abbrev pub invariant-loop-number : goal.invariant-loop-number
invariant-loop-number l = record {
  counted : l.returned ≡ l.number-index;
  freed : AtEach (λ made number next. TellsReturnNumber made number l.from ok next) l.initial.self (take l.number-index l.numbers)
      l.self;
}
