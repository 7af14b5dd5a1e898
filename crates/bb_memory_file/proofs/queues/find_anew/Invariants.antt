use Rattle.bb_memory_file.proofs.queues.find_anew.Given as goal
use Rattle.bb_memory_file.specs.FileQueueCalls.{Loses}
use Rattle.bb_memory_file.specs.FileQueueLooks.{queue_in}
use Rattle.bb_memory_file.specs.FileQueueSteps.{KnowsSame}
use Rattle.std.proofs.Common.{◌≤◌}
use Rattle.std.specs.Prelude.{◌^◌}

-- others were faster so often
abbrev pub invariant-loop-attempt : goal.invariant-loop-attempt
invariant-loop-attempt g l = record {
  lost : Loses (queue_in (g.W.Words.log l.fn.words).scene l.fn.queue) (g.W.Words.log l.fn.words) l._attempt (g.W.Words.log l.words);
  same : KnowsSame (g.W.Words.log l.fn.words) (g.W.Words.log l.words);
  most : l._attempt ≤ 2 ^ 16;
}
