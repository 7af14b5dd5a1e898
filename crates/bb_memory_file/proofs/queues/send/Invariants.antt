use Rattle.bb_memory_file.proofs.FileQueueSends.{Tried}
use Rattle.bb_memory_file.proofs.queues.send.Given as goal
use Rattle.bb_memory_file.specs.FileQueueLooks.{queue_in}
use Rattle.std.proofs.Common.{◌^◌, ◌≤◌}

-- others were faster so often
abbrev pub invariant-loop-attempt : goal.invariant-loop-attempt
invariant-loop-attempt g l = record {
  tried : Tried (queue_in (g.W.Words.log l.fn.words).scene l.fn.queue) l.fn.bucket l.fn.length (g.W.Words.log l.fn.words) l._attempt
      l.tail (g.W.Words.log l.words);
  most : l._attempt ≤ 2 ^ 16;
}
