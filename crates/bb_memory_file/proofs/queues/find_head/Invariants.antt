use Rattle.bb_memory_file.proofs.FileQueueHeads.{Heading}
use Rattle.bb_memory_file.proofs.queues.find_head.Given as goal
use Rattle.bb_memory_file.specs.FileQueueLooks.{queue_in}
use Rattle.std.proofs.Common.{◌*◌, ◌+◌, ◌≡◌, ◌≤◌}

-- of the slots before this one, the head's lap comes first
abbrev pub invariant-loop-slot : goal.invariant-loop-slot
invariant-loop-slot g l = record {
  heading : Heading (queue_in (g.W.Words.log l.fn.words).scene l.fn.queue) (g.W.Words.log l.fn.words) l.lap l.slot l.head
      (g.W.Words.log l.words);
  end : l.slot-end ≡ l.fn.queue.number * l.fn.queue.depth + l.fn.queue.depth;
  most : l.slot ≤ l.fn.queue.number * l.fn.queue.depth + l.fn.queue.depth;
}
