use Rattle.bb_memory_file.proofs.queues.pass_over.Given as goal
use Rattle.bb_memory_file.specs.FileQueueCalls.{IsOver, Passes}
use Rattle.bb_memory_file.specs.FileQueueLooks.{queue_in}
use Rattle.std.proofs.Common.{◌≡◌, ◌≤◌}

-- the slots before this one are over
abbrev pub invariant-loop-passed : goal.invariant-loop-passed
invariant-loop-passed g l = record {
  passes : Passes IsOver (queue_in (g.W.Words.log l.fn.words).scene l.fn.queue) (g.W.Words.log l.fn.words) l.fn.from l._passed
      (g.W.Words.log l.words) l.position;
  most : l._passed ≤ l.fn.queue.depth;
  end : l._passed-end ≡ l.fn.queue.depth;
}
