use Rattle.bb_memory_file.proofs.FileNotes.{within}
use Rattle.bb_memory_file.proofs.FileQueueNotes.{noted_message, noted_missed, noted_wrong}
use Rattle.bb_memory_file.proofs.FileQueueReceipts.{begun_seen, receipt_message, receipt_unfit, receive_grows, sent_beaten, sent_can, sent_its, sent_lap, sent_older, sent_seen, take_obeys, walked_end, walked_none, walked_wrong}
use Rattle.bb_memory_file.proofs.FileQueueSends.{grows_on}
use Rattle.bb_memory_file.proofs.FileQueueWalks.{looks_gets, looks_obey, looks_on, same_scene}
use Rattle.bb_memory_file.proofs.queues.try_to_receive.Goals as goal
use Rattle.bb_memory_file.specs.FileCalls.received as received
use Rattle.bb_memory_file.specs.FileNotes.{Unheld}
use Rattle.bb_memory_file.specs.FileQueueCalls.{nothing}
use Rattle.bb_memory_file.specs.FileQueueLooks.{queue_in}
use Rattle.bb_memory_file_machine.specs.FileMachine.{FileScene}
use Rattle.bb_memory_file_machine.specs.FileQueues.{IsWhole}
use Rattle.std.proofs.Common.{arith, subst, sym}

pub walk_on-requires-2 : goal.walk_on-requires-2
walk_on-requires-2 g c = record {
  whole = subst (λ (scene : FileScene). IsWhole (queue_in scene c.args.queue))
      (sym (same_scene (g.W.Words.log c.args.words.now) (g.W.Words.log c.walk_on.new.words) c.in-Sent.ensures.looks)) c.requires.whole;
  depth = c.requires.depth;
  fits = c.requires.fits;
  noted = c.in-Sent.ensures.noted;
  head = c.requires.head.0;
}

pub returns-in-Passed : goal.returns-in-Passed
returns-in-Passed g c = record {
  receives = λ begun has. walked_none (queue_in (g.W.Words.log c.args.words.now).scene c.args.queue) c.args.notes.now begun
      c.args.head (g.W.Words.log c.args.words.now) has (g.W.Words.log c.args.words.now) nothing (g.W.Words.log c.walk_on.new.words) c.in-Passed.ensures.looks c.args.size c.in-Passed.ensures.walks;
  obeys = looks_obey (g.W.Words.log c.args.words.now) c.args.queue.depth (g.W.Words.log c.walk_on.new.words) c.in-Passed.ensures.looks;
  noted = c.in-Passed.ensures.noted;
  grows = looks_gets (g.W.Words.log c.args.words.now) (g.W.Words.log c.walk_on.new.words) c.in-Passed.ensures.looks;
}

pub returns-in-End : goal.returns-in-End
returns-in-End g c = record {
  receives = λ begun has. walked_end (queue_in (g.W.Words.log c.args.words.now).scene c.args.queue) c.args.notes.now begun
      c.args.head (g.W.Words.log c.args.words.now) has (g.W.Words.log c.args.words.now) nothing (g.W.Words.log c.walk_on.new.words) c.in-End.ensures.looks c.args.size c.args.queue.depth (omega arith)
      c.in-End.ensures.walks;
  obeys = looks_obey (g.W.Words.log c.args.words.now) c.args.queue.depth (g.W.Words.log c.walk_on.new.words) c.in-End.ensures.looks;
  noted = c.in-End.ensures.noted;
  grows = looks_gets (g.W.Words.log c.args.words.now) (g.W.Words.log c.walk_on.new.words) c.in-End.ensures.looks;
}

pub returns-in-Wrong : goal.returns-in-Wrong
returns-in-Wrong g c = record {
  receives = λ begun has. walked_wrong (queue_in (g.W.Words.log c.args.words.now).scene c.args.queue) c.args.notes.now begun
      c.args.head (g.W.Words.log c.args.words.now) has (g.W.Words.log c.args.words.now) nothing (g.W.Words.log c.walk_on.new.words) c.in-Wrong.ensures.looks c.args.size c.args.queue.depth c.requires.depth
      (omega arith) c.in-Wrong.ensures.walks;
  obeys = looks_obey (g.W.Words.log c.args.words.now) c.args.queue.depth (g.W.Words.log c.walk_on.new.words) c.in-Wrong.ensures.looks;
  noted = c.in-Wrong.ensures.noted;
  grows = looks_gets (g.W.Words.log c.args.words.now) (g.W.Words.log c.walk_on.new.words) c.in-Wrong.ensures.looks;
}

pub returns-in-Sent-walk_on : goal.returns-in-Sent-walk_on
returns-in-Sent-walk_on g c = record {
  receives = sent_older (queue_in (g.W.Words.log c.args.words.now).scene c.args.queue) c.requires.depth c.args.notes.now (g.W.Words.log c.args.words.now)
      c.args.head c.requires.head c.in-Sent.position c.in-Sent.bucket c.in-Sent.passed (g.W.Words.log c.walk_on.new.words)
      c.in-Sent.ensures.looks c.in-Sent.ensures.walks (g.W.Words.log c.walk_on-2.new.words) c.in-Sent-walk_on.ensures.looks c.in-Sent-walk_on.position
      c.in-Sent-walk_on.bucket c.in-Sent-walk_on.passed c.in-Sent-walk_on.ensures.walks;
  obeys = looks_obey (g.W.Words.log c.args.words.now) c.args.queue.depth (g.W.Words.log c.walk_on-2.new.words)
      (looks_on (g.W.Words.log c.args.words.now) (g.W.Words.log c.walk_on.new.words) c.in-Sent.ensures.looks (g.W.Words.log c.walk_on-2.new.words) c.in-Sent-walk_on.ensures.looks);
  noted = c.in-Sent-walk_on.ensures.noted;
  grows = looks_gets (g.W.Words.log c.args.words.now) (g.W.Words.log c.walk_on-2.new.words)
      (looks_on (g.W.Words.log c.args.words.now) (g.W.Words.log c.walk_on.new.words) c.in-Sent.ensures.looks (g.W.Words.log c.walk_on-2.new.words) c.in-Sent-walk_on.ensures.looks);
}

pub returns-in-End-walk_on : goal.returns-in-End-walk_on
returns-in-End-walk_on g c = record {
  receives = λ begun has. let less = c.in-Sent.ensures.walks.0 in
      walked_end (queue_in (g.W.Words.log c.args.words.now).scene c.args.queue) c.args.notes.now begun c.args.head (g.W.Words.log c.args.words.now) has (g.W.Words.log c.walk_on.new.words) c.in-Sent.ensures.looks (g.W.Words.log c.walk_on-2.new.words) c.in-End-walk_on.ensures.looks c.args.size c.in-Sent.passed (omega (arith, less))
      c.in-End-walk_on.ensures.walks;
  obeys = looks_obey (g.W.Words.log c.args.words.now) c.args.queue.depth (g.W.Words.log c.walk_on-2.new.words)
      (looks_on (g.W.Words.log c.args.words.now) (g.W.Words.log c.walk_on.new.words) c.in-Sent.ensures.looks (g.W.Words.log c.walk_on-2.new.words) c.in-End-walk_on.ensures.looks);
  noted = c.in-End-walk_on.ensures.noted;
  grows = looks_gets (g.W.Words.log c.args.words.now) (g.W.Words.log c.walk_on-2.new.words)
      (looks_on (g.W.Words.log c.args.words.now) (g.W.Words.log c.walk_on.new.words) c.in-Sent.ensures.looks (g.W.Words.log c.walk_on-2.new.words) c.in-End-walk_on.ensures.looks);
}

pub returns-in-Wrong-walk_on : goal.returns-in-Wrong-walk_on
returns-in-Wrong-walk_on g c = record {
  receives = λ begun has. let less = c.in-Sent.ensures.walks.0 in
      walked_wrong (queue_in (g.W.Words.log c.args.words.now).scene c.args.queue) c.args.notes.now begun c.args.head (g.W.Words.log c.args.words.now) has (g.W.Words.log c.walk_on.new.words) c.in-Sent.ensures.looks (g.W.Words.log c.walk_on-2.new.words) c.in-Wrong-walk_on.ensures.looks c.args.size c.in-Sent.passed c.requires.depth
      (omega (arith, less)) c.in-Wrong-walk_on.ensures.walks;
  obeys = looks_obey (g.W.Words.log c.args.words.now) c.args.queue.depth (g.W.Words.log c.walk_on-2.new.words)
      (looks_on (g.W.Words.log c.args.words.now) (g.W.Words.log c.walk_on.new.words) c.in-Sent.ensures.looks (g.W.Words.log c.walk_on-2.new.words) c.in-Wrong-walk_on.ensures.looks);
  noted = c.in-Wrong-walk_on.ensures.noted;
  grows = looks_gets (g.W.Words.log c.args.words.now) (g.W.Words.log c.walk_on-2.new.words)
      (looks_on (g.W.Words.log c.args.words.now) (g.W.Words.log c.walk_on.new.words) c.in-Sent.ensures.looks (g.W.Words.log c.walk_on-2.new.words) c.in-Wrong-walk_on.ensures.looks);
}

pub receive-requires : goal.receive-requires
receive-requires g c = record {
  lap = sent_lap (queue_in (g.W.Words.log c.args.words.now).scene c.args.queue) c.requires.depth c.args.notes.now (g.W.Words.log c.args.words.now)
      c.args.head c.requires.head c.in-Sent.position c.in-Sent.bucket c.in-Sent.passed (g.W.Words.log c.walk_on.new.words)
      c.in-Sent.ensures.looks c.in-Sent.ensures.walks (g.W.Words.log c.walk_on-2.new.words) c.in-Passed-walk_on.ensures.looks;
  below = within c.args.notes.now c.in-Sent.bucket Unheld (g.W.Words.log c.walk_on-2.new.words).scene.buckets (sym c.in-Passed-walk_on.ensures.noted.enough)
      c.in-Sent.ensures.walks.2;
}

pub returns-in-NotSent : goal.returns-in-NotSent
returns-in-NotSent g c = record {
  receives = sent_beaten (queue_in (g.W.Words.log c.args.words.now).scene c.args.queue) c.requires.depth c.args.notes.now (g.W.Words.log c.args.words.now)
      c.args.head c.requires.head c.in-Sent.position c.in-Sent.bucket c.in-Sent.passed (g.W.Words.log c.walk_on.new.words)
      c.in-Sent.ensures.looks c.in-Sent.ensures.walks (g.W.Words.log c.walk_on-2.new.words) c.in-Passed-walk_on.ensures.looks (g.W.Words.log c.receive.new.words) (c.in-NotSent.ensures 0).1;
  obeys = λ obey. take_obeys (queue_in (g.W.Words.log c.args.words.now).scene c.args.queue) (g.W.Words.log c.walk_on-2.new.words)
      (sym (same_scene (g.W.Words.log c.args.words.now) (g.W.Words.log c.walk_on-2.new.words) (sent_seen (queue_in (g.W.Words.log c.args.words.now).scene c.args.queue) c.requires.depth c.args.notes.now (g.W.Words.log c.args.words.now)
      c.args.head c.requires.head c.in-Sent.position c.in-Sent.bucket c.in-Sent.passed (g.W.Words.log c.walk_on.new.words)
      c.in-Sent.ensures.looks c.in-Sent.ensures.walks (g.W.Words.log c.walk_on-2.new.words) c.in-Passed-walk_on.ensures.looks)))
      c.in-Sent.position.slot c.in-Sent.position.lap c.in-Sent.bucket c.args.size (sent_its (queue_in (g.W.Words.log c.args.words.now).scene c.args.queue) c.requires.depth c.args.notes.now (g.W.Words.log c.args.words.now)
      c.args.head c.requires.head c.in-Sent.position c.in-Sent.bucket c.in-Sent.passed (g.W.Words.log c.walk_on.new.words)
      c.in-Sent.ensures.looks c.in-Sent.ensures.walks (g.W.Words.log c.walk_on-2.new.words) c.in-Passed-walk_on.ensures.looks)
      (sent_can (queue_in (g.W.Words.log c.args.words.now).scene c.args.queue) c.requires.depth c.args.notes.now (g.W.Words.log c.args.words.now)
      c.args.head c.requires.head c.in-Sent.position c.in-Sent.bucket c.in-Sent.passed (g.W.Words.log c.walk_on.new.words)
      c.in-Sent.ensures.looks c.in-Sent.ensures.walks (g.W.Words.log c.walk_on-2.new.words) c.in-Passed-walk_on.ensures.looks c.in-Passed-walk_on.ensures.walks) received.NotSent (g.W.Words.log c.receive.new.words) (c.in-NotSent.ensures 0)
      ((looks_obey (g.W.Words.log c.args.words.now) c.args.queue.depth (g.W.Words.log c.walk_on-2.new.words)
      (looks_on (g.W.Words.log c.args.words.now) (g.W.Words.log c.walk_on.new.words) c.in-Sent.ensures.looks (g.W.Words.log c.walk_on-2.new.words) c.in-Passed-walk_on.ensures.looks)) obey);
  noted = noted_missed (g.W.Words.log c.walk_on-2.new.words) c.args.notes.now c.in-Sent.bucket c.in-Sent.ensures.walks.2 c.in-Passed-walk_on.ensures.noted c.in-Sent.position.slot
      c.in-Sent.position.lap c.args.size (g.W.Words.log c.receive.new.words) (c.in-NotSent.ensures 0);
  grows = grows_on (g.W.Words.log c.args.words.now) (g.W.Words.log c.walk_on-2.new.words) (g.W.Words.log c.receive.new.words)
      (looks_gets (g.W.Words.log c.args.words.now) (g.W.Words.log c.walk_on-2.new.words) (looks_on (g.W.Words.log c.args.words.now) (g.W.Words.log c.walk_on.new.words) c.in-Sent.ensures.looks (g.W.Words.log c.walk_on-2.new.words) c.in-Passed-walk_on.ensures.looks)) (receive_grows (g.W.Words.log c.walk_on-2.new.words) c.in-Sent.position.slot
      c.in-Sent.position.lap c.in-Sent.bucket c.args.size received.NotSent (g.W.Words.log c.receive.new.words) (c.in-NotSent.ensures 0));
}

pub returns-in-Wrong-receive : goal.returns-in-Wrong-receive
returns-in-Wrong-receive g c = record {
  receives = λ begun has. receipt_unfit (queue_in (g.W.Words.log c.args.words.now).scene c.args.queue) c.args.notes.now c.args.size begun (g.W.Words.log c.walk_on-2.new.words)
      c.in-Sent.position.slot c.in-Sent.position.lap c.in-Sent.bucket (g.W.Words.log c.receive.new.words)
      (begun_seen (queue_in (g.W.Words.log c.args.words.now).scene c.args.queue) c.args.notes.now begun c.args.head (g.W.Words.log c.args.words.now) has (g.W.Words.log c.walk_on-2.new.words) (sent_seen (queue_in (g.W.Words.log c.args.words.now).scene c.args.queue) c.requires.depth c.args.notes.now (g.W.Words.log c.args.words.now)
      c.args.head c.requires.head c.in-Sent.position c.in-Sent.bucket c.in-Sent.passed (g.W.Words.log c.walk_on.new.words)
      c.in-Sent.ensures.looks c.in-Sent.ensures.walks (g.W.Words.log c.walk_on-2.new.words) c.in-Passed-walk_on.ensures.looks)) (sent_its (queue_in (g.W.Words.log c.args.words.now).scene c.args.queue) c.requires.depth c.args.notes.now (g.W.Words.log c.args.words.now)
      c.args.head c.requires.head c.in-Sent.position c.in-Sent.bucket c.in-Sent.passed (g.W.Words.log c.walk_on.new.words)
      c.in-Sent.ensures.looks c.in-Sent.ensures.walks (g.W.Words.log c.walk_on-2.new.words) c.in-Passed-walk_on.ensures.looks)
      c.in-Wrong-receive.ensures;
  obeys = λ obey. take_obeys (queue_in (g.W.Words.log c.args.words.now).scene c.args.queue) (g.W.Words.log c.walk_on-2.new.words)
      (sym (same_scene (g.W.Words.log c.args.words.now) (g.W.Words.log c.walk_on-2.new.words) (sent_seen (queue_in (g.W.Words.log c.args.words.now).scene c.args.queue) c.requires.depth c.args.notes.now (g.W.Words.log c.args.words.now)
      c.args.head c.requires.head c.in-Sent.position c.in-Sent.bucket c.in-Sent.passed (g.W.Words.log c.walk_on.new.words)
      c.in-Sent.ensures.looks c.in-Sent.ensures.walks (g.W.Words.log c.walk_on-2.new.words) c.in-Passed-walk_on.ensures.looks)))
      c.in-Sent.position.slot c.in-Sent.position.lap c.in-Sent.bucket c.args.size (sent_its (queue_in (g.W.Words.log c.args.words.now).scene c.args.queue) c.requires.depth c.args.notes.now (g.W.Words.log c.args.words.now)
      c.args.head c.requires.head c.in-Sent.position c.in-Sent.bucket c.in-Sent.passed (g.W.Words.log c.walk_on.new.words)
      c.in-Sent.ensures.looks c.in-Sent.ensures.walks (g.W.Words.log c.walk_on-2.new.words) c.in-Passed-walk_on.ensures.looks)
      (sent_can (queue_in (g.W.Words.log c.args.words.now).scene c.args.queue) c.requires.depth c.args.notes.now (g.W.Words.log c.args.words.now)
      c.args.head c.requires.head c.in-Sent.position c.in-Sent.bucket c.in-Sent.passed (g.W.Words.log c.walk_on.new.words)
      c.in-Sent.ensures.looks c.in-Sent.ensures.walks (g.W.Words.log c.walk_on-2.new.words) c.in-Passed-walk_on.ensures.looks c.in-Passed-walk_on.ensures.walks) received.Wrong (g.W.Words.log c.receive.new.words) (c.in-Wrong-receive.ensures 0)
      ((looks_obey (g.W.Words.log c.args.words.now) c.args.queue.depth (g.W.Words.log c.walk_on-2.new.words)
      (looks_on (g.W.Words.log c.args.words.now) (g.W.Words.log c.walk_on.new.words) c.in-Sent.ensures.looks (g.W.Words.log c.walk_on-2.new.words) c.in-Passed-walk_on.ensures.looks)) obey);
  noted = noted_wrong (g.W.Words.log c.walk_on-2.new.words) c.args.notes.now c.in-Sent.bucket c.in-Sent.ensures.walks.2 c.in-Passed-walk_on.ensures.noted c.in-Sent.position.slot
      c.in-Sent.position.lap c.args.size (g.W.Words.log c.receive.new.words) (c.in-Wrong-receive.ensures 0);
  grows = grows_on (g.W.Words.log c.args.words.now) (g.W.Words.log c.walk_on-2.new.words) (g.W.Words.log c.receive.new.words)
      (looks_gets (g.W.Words.log c.args.words.now) (g.W.Words.log c.walk_on-2.new.words) (looks_on (g.W.Words.log c.args.words.now) (g.W.Words.log c.walk_on.new.words) c.in-Sent.ensures.looks (g.W.Words.log c.walk_on-2.new.words) c.in-Passed-walk_on.ensures.looks)) (receive_grows (g.W.Words.log c.walk_on-2.new.words) c.in-Sent.position.slot
      c.in-Sent.position.lap c.in-Sent.bucket c.args.size received.Wrong (g.W.Words.log c.receive.new.words) (c.in-Wrong-receive.ensures 0));
}

pub returns-in-Message : goal.returns-in-Message
returns-in-Message g c = record {
  receives = λ begun has. receipt_message (queue_in (g.W.Words.log c.args.words.now).scene c.args.queue) c.args.notes.now c.args.size begun (g.W.Words.log c.walk_on-2.new.words)
      c.in-Sent.position.slot c.in-Sent.position.lap c.in-Sent.bucket c.in-Message.length (g.W.Words.log c.receive.new.words)
      (begun_seen (queue_in (g.W.Words.log c.args.words.now).scene c.args.queue) c.args.notes.now begun c.args.head (g.W.Words.log c.args.words.now) has (g.W.Words.log c.walk_on-2.new.words) (sent_seen (queue_in (g.W.Words.log c.args.words.now).scene c.args.queue) c.requires.depth c.args.notes.now (g.W.Words.log c.args.words.now)
      c.args.head c.requires.head c.in-Sent.position c.in-Sent.bucket c.in-Sent.passed (g.W.Words.log c.walk_on.new.words)
      c.in-Sent.ensures.looks c.in-Sent.ensures.walks (g.W.Words.log c.walk_on-2.new.words) c.in-Passed-walk_on.ensures.looks)) (sent_its (queue_in (g.W.Words.log c.args.words.now).scene c.args.queue) c.requires.depth c.args.notes.now (g.W.Words.log c.args.words.now)
      c.args.head c.requires.head c.in-Sent.position c.in-Sent.bucket c.in-Sent.passed (g.W.Words.log c.walk_on.new.words)
      c.in-Sent.ensures.looks c.in-Sent.ensures.walks (g.W.Words.log c.walk_on-2.new.words) c.in-Passed-walk_on.ensures.looks)
      c.in-Sent.ensures.walks.2 (sent_can (queue_in (g.W.Words.log c.args.words.now).scene c.args.queue) c.requires.depth c.args.notes.now (g.W.Words.log c.args.words.now)
      c.args.head c.requires.head c.in-Sent.position c.in-Sent.bucket c.in-Sent.passed (g.W.Words.log c.walk_on.new.words)
      c.in-Sent.ensures.looks c.in-Sent.ensures.walks (g.W.Words.log c.walk_on-2.new.words) c.in-Passed-walk_on.ensures.looks c.in-Passed-walk_on.ensures.walks)
      c.in-Message.ensures;
  obeys = λ obey. take_obeys (queue_in (g.W.Words.log c.args.words.now).scene c.args.queue) (g.W.Words.log c.walk_on-2.new.words)
      (sym (same_scene (g.W.Words.log c.args.words.now) (g.W.Words.log c.walk_on-2.new.words) (sent_seen (queue_in (g.W.Words.log c.args.words.now).scene c.args.queue) c.requires.depth c.args.notes.now (g.W.Words.log c.args.words.now)
      c.args.head c.requires.head c.in-Sent.position c.in-Sent.bucket c.in-Sent.passed (g.W.Words.log c.walk_on.new.words)
      c.in-Sent.ensures.looks c.in-Sent.ensures.walks (g.W.Words.log c.walk_on-2.new.words) c.in-Passed-walk_on.ensures.looks)))
      c.in-Sent.position.slot c.in-Sent.position.lap c.in-Sent.bucket c.args.size (sent_its (queue_in (g.W.Words.log c.args.words.now).scene c.args.queue) c.requires.depth c.args.notes.now (g.W.Words.log c.args.words.now)
      c.args.head c.requires.head c.in-Sent.position c.in-Sent.bucket c.in-Sent.passed (g.W.Words.log c.walk_on.new.words)
      c.in-Sent.ensures.looks c.in-Sent.ensures.walks (g.W.Words.log c.walk_on-2.new.words) c.in-Passed-walk_on.ensures.looks)
      (sent_can (queue_in (g.W.Words.log c.args.words.now).scene c.args.queue) c.requires.depth c.args.notes.now (g.W.Words.log c.args.words.now)
      c.args.head c.requires.head c.in-Sent.position c.in-Sent.bucket c.in-Sent.passed (g.W.Words.log c.walk_on.new.words)
      c.in-Sent.ensures.looks c.in-Sent.ensures.walks (g.W.Words.log c.walk_on-2.new.words) c.in-Passed-walk_on.ensures.looks c.in-Passed-walk_on.ensures.walks) (received.Message c.in-Message.length) (g.W.Words.log c.receive.new.words) (c.in-Message.ensures 0)
      ((looks_obey (g.W.Words.log c.args.words.now) c.args.queue.depth (g.W.Words.log c.walk_on-2.new.words)
      (looks_on (g.W.Words.log c.args.words.now) (g.W.Words.log c.walk_on.new.words) c.in-Sent.ensures.looks (g.W.Words.log c.walk_on-2.new.words) c.in-Passed-walk_on.ensures.looks)) obey);
  noted = noted_message (g.W.Words.log c.walk_on-2.new.words) c.args.notes.now c.in-Sent.bucket c.in-Sent.ensures.walks.2 c.in-Passed-walk_on.ensures.noted c.in-Sent.position.slot
      c.in-Sent.position.lap c.args.size (g.W.Words.log c.receive.new.words) c.in-Message.length (c.in-Message.ensures 0);
  grows = grows_on (g.W.Words.log c.args.words.now) (g.W.Words.log c.walk_on-2.new.words) (g.W.Words.log c.receive.new.words)
      (looks_gets (g.W.Words.log c.args.words.now) (g.W.Words.log c.walk_on-2.new.words) (looks_on (g.W.Words.log c.args.words.now) (g.W.Words.log c.walk_on.new.words) c.in-Sent.ensures.looks (g.W.Words.log c.walk_on-2.new.words) c.in-Passed-walk_on.ensures.looks)) (receive_grows (g.W.Words.log c.walk_on-2.new.words) c.in-Sent.position.slot
      c.in-Sent.position.lap c.in-Sent.bucket c.args.size (received.Message c.in-Message.length) (g.W.Words.log c.receive.new.words) (c.in-Message.ensures 0));
}
