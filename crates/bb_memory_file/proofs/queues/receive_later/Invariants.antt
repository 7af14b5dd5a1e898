use Rattle.bb_memory_file.proofs.queues.receive_later.Given as goal
use Rattle.bb_memory_file.specs.FileNotes.{AreNoted}
use Rattle.bb_memory_file.specs.FileQueueCalls.{Loses}
use Rattle.bb_memory_file.specs.FileQueueLooks.{queue_in}
use Rattle.std.proofs.Common.{◌≤◌}
use Rattle.std.specs.Prelude.{◌^◌}

-- others were faster so often
abbrev pub invariant-loop-attempt : goal.invariant-loop-attempt
invariant-loop-attempt g l = record {
  lost : Loses (queue_in (g.W.Words.log l.fn.words).scene l.fn.queue) (g.W.Words.log l.fn.words) l._attempt (g.W.Words.log l.words);
  noted : AreNoted (g.W.Words.log l.words) l.notes;
  most : l._attempt ≤ 2 ^ 16;
}
