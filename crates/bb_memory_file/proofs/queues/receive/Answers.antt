use Rattle.bb_memory_file.proofs.FileQueueNotes.{noted_same}
use Rattle.bb_memory_file.proofs.FileQueueReceipts.{oldest_head, oldest_look, receipt_as, receipt_lost, receipt_wrong, seen_oldest}
use Rattle.bb_memory_file.proofs.FileQueueSends.{grows_on}
use Rattle.bb_memory_file.proofs.FileQueueWalks.{head_later, looks_gets, looks_obey, loses_look, moment_gets, same_scene}
use Rattle.bb_memory_file.proofs.queues.receive.Goals as goal
use Rattle.bb_memory_file.specs.FileQueueLooks.{queue_in}
use Rattle.bb_memory_file_machine.specs.FileMachine.{FileScene}
use Rattle.bb_memory_file_machine.specs.FileQueues.{IsWhole}
use Rattle.std.proofs.Common.{subst, sym}
use Rattle.std.specs.Prelude.{◌^◌}

pub returns-in-Wrong : goal.returns-in-Wrong
returns-in-Wrong g c = record {
  receives = receipt_wrong (queue_in (g.W.Words.log c.args.words.now).scene c.args.queue) c.args.notes.now c.args.size (g.W.Words.log c.args.words.now) (g.W.Words.log c.find_oldest.new.words) c.in-Wrong.ensures.oldest.0
      (c.in-Wrong.ensures.oldest.1 c.args.notes.now);
  head = tt;
  obeys = looks_obey (g.W.Words.log c.args.words.now) c.args.queue.depth (g.W.Words.log c.find_oldest.new.words) c.in-Wrong.ensures.oldest.0;
  noted = noted_same (g.W.Words.log c.args.words.now) (g.W.Words.log c.find_oldest.new.words) c.args.notes.now (same_scene (g.W.Words.log c.args.words.now) (g.W.Words.log c.find_oldest.new.words) c.in-Wrong.ensures.oldest.0) c.in-Wrong.ensures.same
      c.requires.noted;
  grows = looks_gets (g.W.Words.log c.args.words.now) (g.W.Words.log c.find_oldest.new.words) c.in-Wrong.ensures.oldest.0;
}

pub returns-in-Overtaken : goal.returns-in-Overtaken
returns-in-Overtaken g c = record {
  receives = receipt_lost (queue_in (g.W.Words.log c.args.words.now).scene c.args.queue) c.args.notes.now c.args.size (g.W.Words.log c.args.words.now) (g.W.Words.log c.find_oldest.new.words) c.in-Overtaken.ensures.oldest;
  head = tt;
  obeys = looks_obey (g.W.Words.log c.args.words.now) c.args.queue.depth (g.W.Words.log c.find_oldest.new.words) (loses_look (queue_in (g.W.Words.log c.args.words.now).scene c.args.queue) (g.W.Words.log c.args.words.now) (2 ^ 16) (g.W.Words.log c.find_oldest.new.words) c.in-Overtaken.ensures.oldest);
  noted = noted_same (g.W.Words.log c.args.words.now) (g.W.Words.log c.find_oldest.new.words) c.args.notes.now (same_scene (g.W.Words.log c.args.words.now) (g.W.Words.log c.find_oldest.new.words) (loses_look (queue_in (g.W.Words.log c.args.words.now).scene c.args.queue) (g.W.Words.log c.args.words.now) (2 ^ 16) (g.W.Words.log c.find_oldest.new.words) c.in-Overtaken.ensures.oldest)) c.in-Overtaken.ensures.same c.requires.noted;
  grows = looks_gets (g.W.Words.log c.args.words.now) (g.W.Words.log c.find_oldest.new.words) (loses_look (queue_in (g.W.Words.log c.args.words.now).scene c.args.queue) (g.W.Words.log c.args.words.now) (2 ^ 16) (g.W.Words.log c.find_oldest.new.words) c.in-Overtaken.ensures.oldest);
}

pub receive_from-requires : goal.receive_from-requires
receive_from-requires g c = record {
  whole = subst (λ (scene : FileScene). IsWhole (queue_in scene c.args.queue)) (sym (same_scene (g.W.Words.log c.args.words.now) (g.W.Words.log c.find_oldest.new.words) (seen_oldest (queue_in (g.W.Words.log c.args.words.now).scene c.args.queue) (g.W.Words.log c.args.words.now) c.in-At.stop (g.W.Words.log c.find_oldest.new.words) c.in-At.ensures.oldest))) c.requires.whole;
  depth = c.requires.depth;
  fits = c.requires.fits;
  noted = noted_same (g.W.Words.log c.args.words.now) (g.W.Words.log c.find_oldest.new.words) c.args.notes.now (same_scene (g.W.Words.log c.args.words.now) (g.W.Words.log c.find_oldest.new.words) (seen_oldest (queue_in (g.W.Words.log c.args.words.now).scene c.args.queue) (g.W.Words.log c.args.words.now) c.in-At.stop (g.W.Words.log c.find_oldest.new.words) c.in-At.ensures.oldest)) c.in-At.ensures.same c.requires.noted;
  head = oldest_head (queue_in (g.W.Words.log c.args.words.now).scene c.args.queue) (g.W.Words.log c.args.words.now) c.in-At.stop (g.W.Words.log c.find_oldest.new.words) c.in-At.ensures.oldest;
  look = oldest_look (queue_in (g.W.Words.log c.args.words.now).scene c.args.queue) (g.W.Words.log c.args.words.now) c.in-At.stop (g.W.Words.log c.find_oldest.new.words) c.in-At.ensures.oldest;
  lap = c.in-At.ensures.oldest.4;
}

pub returns : goal.returns
returns g c = record {
  receives = receipt_as (g.W.Words.log c.find_oldest.new.words).scene (g.W.Words.log c.args.words.now).scene c.args.queue (g.W.Words.log c.args.words.now) c.args.notes.now c.args.size c.receive_from.result (g.W.Words.log c.receive_from.new.words)
      (same_scene (g.W.Words.log c.args.words.now) (g.W.Words.log c.find_oldest.new.words) (seen_oldest (queue_in (g.W.Words.log c.args.words.now).scene c.args.queue) (g.W.Words.log c.args.words.now) c.in-At.stop (g.W.Words.log c.find_oldest.new.words) c.in-At.ensures.oldest)) (c.receive_from.ensures.receives (g.W.Words.log c.args.words.now) c.in-At.ensures.oldest);
  head = head_later (queue_in (g.W.Words.log c.args.words.now).scene c.args.queue) (g.W.Words.log c.find_oldest.new.words).events (g.W.Words.log c.receive_from.new.words).events c.in-At.stop.position
      (moment_gets (g.W.Words.log c.find_oldest.new.words) c.receive_from.ensures.grows.0 (g.W.Words.log c.receive_from.new.words) c.receive_from.ensures.grows.1)
      (oldest_head (queue_in (g.W.Words.log c.args.words.now).scene c.args.queue) (g.W.Words.log c.args.words.now) c.in-At.stop (g.W.Words.log c.find_oldest.new.words) c.in-At.ensures.oldest);
  obeys = λ obey. c.receive_from.ensures.obeys (looks_obey (g.W.Words.log c.args.words.now) c.args.queue.depth (g.W.Words.log c.find_oldest.new.words) (seen_oldest (queue_in (g.W.Words.log c.args.words.now).scene c.args.queue) (g.W.Words.log c.args.words.now) c.in-At.stop (g.W.Words.log c.find_oldest.new.words) c.in-At.ensures.oldest) obey);
  noted = c.receive_from.ensures.noted;
  grows = grows_on (g.W.Words.log c.args.words.now) (g.W.Words.log c.find_oldest.new.words) (g.W.Words.log c.receive_from.new.words) (looks_gets (g.W.Words.log c.args.words.now) (g.W.Words.log c.find_oldest.new.words) (seen_oldest (queue_in (g.W.Words.log c.args.words.now).scene c.args.queue) (g.W.Words.log c.args.words.now) c.in-At.stop (g.W.Words.log c.find_oldest.new.words) c.in-At.ensures.oldest)) c.receive_from.ensures.grows;
}
