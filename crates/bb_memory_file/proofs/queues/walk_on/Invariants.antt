use Rattle.bb_memory_file.proofs.FileQueueReceipts.{Walking}
use Rattle.bb_memory_file.proofs.queues.walk_on.Given as goal
use Rattle.bb_memory_file.specs.FileQueueLooks.{queue_in}

-- the receiver has passed the messages before this one
abbrev pub invariant-loop-passed : goal.invariant-loop-passed
invariant-loop-passed g l = record {
  walking : Walking (queue_in (g.W.Words.log l.fn.words).scene l.fn.queue) l.notes (g.W.Words.log l.fn.words) l.fn.head l.passed
      l.position (g.W.Words.log l.words);
}
