use Rattle.bb_memory_file.proofs.FileQueueSends.{clear_one, knows_one, missed_grows, missed_obeys, missed_others, missed_tail, one_below, one_grows, one_obeys, one_others, one_scene, sent_grows, sent_obeys, sent_others, sent_tail, try_full, try_missed, try_passed, try_sent}
use Rattle.bb_memory_file.proofs.queues.try_to_send.Goals as goal
use Rattle.bb_memory_file.specs.FileQueueLooks.{KnowsTail, Position, queue_in}
use Rattle.bb_memory_file_machine.specs.FileMachine.{FileScene}
use Rattle.std.proofs.Common.{refl, subst, sym, ◌<◌}

pub is_filled-requires : goal.is_filled-requires
is_filled-requires g c = record {
  lap = c.find_turn-word.ensures.turn.2.0.1;
  word = c.find_turn-word.ensures.turn.5;
}

pub returns-then-is_filled : goal.returns-then-is_filled
returns-then-is_filled g c = record {
  sends = λ process. try_passed (queue_in (g.W.Words.log c.args.words.now).scene c.args.queue) (g.W.Words.log c.args.words.now) refl
      c.args.bucket c.args.length c.requires.clear c.find_turn-word.result (g.W.Words.log c.find_turn-word.new.words)
      c.find_turn-word.ensures.turn c.find_turn-word.ensures.same process
      c.if-is_filled.ensures;
  tail = knows_one (queue_in (g.W.Words.log c.args.words.now).scene c.args.queue) (g.W.Words.log c.args.words.now) refl
      c.args.bucket c.args.length c.requires.clear c.find_turn-word.result (g.W.Words.log c.find_turn-word.new.words)
      c.find_turn-word.ensures.turn c.find_turn-word.ensures.same;
  obeys = one_obeys (queue_in (g.W.Words.log c.args.words.now).scene c.args.queue) (g.W.Words.log c.args.words.now) refl
      c.args.bucket c.args.length c.requires.clear c.find_turn-word.result (g.W.Words.log c.find_turn-word.new.words)
      c.find_turn-word.ensures.turn c.find_turn-word.ensures.same;
  others = one_others (queue_in (g.W.Words.log c.args.words.now).scene c.args.queue) (g.W.Words.log c.args.words.now) refl
      c.args.bucket c.args.length c.requires.clear c.find_turn-word.result (g.W.Words.log c.find_turn-word.new.words)
      c.find_turn-word.ensures.turn c.find_turn-word.ensures.same;
  grows = one_grows (queue_in (g.W.Words.log c.args.words.now).scene c.args.queue) (g.W.Words.log c.args.words.now) refl
      c.args.bucket c.args.length c.requires.clear c.find_turn-word.result (g.W.Words.log c.find_turn-word.new.words)
      c.find_turn-word.ensures.turn c.find_turn-word.ensures.same;
}

pub returns-then-not-is_empty_at : goal.returns-then-not-is_empty_at
returns-then-not-is_empty_at g c = record {
  sends = λ process. try_full (queue_in (g.W.Words.log c.args.words.now).scene c.args.queue) (g.W.Words.log c.args.words.now) refl
      c.args.bucket c.args.length c.requires.clear c.find_turn-word.result (g.W.Words.log c.find_turn-word.new.words)
      c.find_turn-word.ensures.turn c.find_turn-word.ensures.same process
      c.if-is_filled.ensures c.if-not-is_empty_at.ensures;
  tail = knows_one (queue_in (g.W.Words.log c.args.words.now).scene c.args.queue) (g.W.Words.log c.args.words.now) refl
      c.args.bucket c.args.length c.requires.clear c.find_turn-word.result (g.W.Words.log c.find_turn-word.new.words)
      c.find_turn-word.ensures.turn c.find_turn-word.ensures.same;
  obeys = one_obeys (queue_in (g.W.Words.log c.args.words.now).scene c.args.queue) (g.W.Words.log c.args.words.now) refl
      c.args.bucket c.args.length c.requires.clear c.find_turn-word.result (g.W.Words.log c.find_turn-word.new.words)
      c.find_turn-word.ensures.turn c.find_turn-word.ensures.same;
  others = one_others (queue_in (g.W.Words.log c.args.words.now).scene c.args.queue) (g.W.Words.log c.args.words.now) refl
      c.args.bucket c.args.length c.requires.clear c.find_turn-word.result (g.W.Words.log c.find_turn-word.new.words)
      c.find_turn-word.ensures.turn c.find_turn-word.ensures.same;
  grows = one_grows (queue_in (g.W.Words.log c.args.words.now).scene c.args.queue) (g.W.Words.log c.args.words.now) refl
      c.args.bucket c.args.length c.requires.clear c.find_turn-word.result (g.W.Words.log c.find_turn-word.new.words)
      c.find_turn-word.ensures.turn c.find_turn-word.ensures.same;
}

pub fill-requires : goal.fill-requires
fill-requires g c = record {
  slot = one_below (queue_in (g.W.Words.log c.args.words.now).scene c.args.queue) (g.W.Words.log c.args.words.now) refl
      c.args.bucket c.args.length c.requires.clear c.find_turn-word.result (g.W.Words.log c.find_turn-word.new.words)
      c.find_turn-word.ensures.turn c.find_turn-word.ensures.same c.requires.whole
      c.requires.depth;
  lap = c.find_turn-word.ensures.turn.2.0.1;
  below = subst (λ (s : FileScene). c.args.bucket < s.buckets)
      (sym (one_scene (queue_in (g.W.Words.log c.args.words.now).scene c.args.queue) (g.W.Words.log c.args.words.now) refl
      c.args.bucket c.args.length c.requires.clear c.find_turn-word.result (g.W.Words.log c.find_turn-word.new.words)
      c.find_turn-word.ensures.turn c.find_turn-word.ensures.same))
      c.requires.below;
  clear = clear_one (queue_in (g.W.Words.log c.args.words.now).scene c.args.queue) (g.W.Words.log c.args.words.now) refl
      c.args.bucket c.args.length c.requires.clear c.find_turn-word.result (g.W.Words.log c.find_turn-word.new.words)
      c.find_turn-word.ensures.turn c.find_turn-word.ensures.same;
}

pub returns-then-not-fill : goal.returns-then-not-fill
returns-then-not-fill g c = record {
  sends = try_missed (queue_in (g.W.Words.log c.args.words.now).scene c.args.queue) (g.W.Words.log c.args.words.now) refl
      c.args.bucket c.args.length c.requires.clear c.find_turn-word.result (g.W.Words.log c.find_turn-word.new.words)
      c.find_turn-word.ensures.turn c.find_turn-word.ensures.same
      c.if-not-is_empty_at.ensures (g.W.Words.log c.fill.new.words) c.if-not-fill.ensures;
  tail = missed_tail (queue_in (g.W.Words.log c.args.words.now).scene c.args.queue) (g.W.Words.log c.args.words.now) refl
      c.args.bucket c.args.length c.requires.clear c.find_turn-word.result (g.W.Words.log c.find_turn-word.new.words)
      c.find_turn-word.ensures.turn c.find_turn-word.ensures.same
      c.if-not-is_empty_at.ensures (g.W.Words.log c.fill.new.words) c.if-not-fill.ensures;
  obeys = missed_obeys (queue_in (g.W.Words.log c.args.words.now).scene c.args.queue) (g.W.Words.log c.args.words.now) refl
      c.args.bucket c.args.length c.requires.clear c.find_turn-word.result (g.W.Words.log c.find_turn-word.new.words)
      c.find_turn-word.ensures.turn c.find_turn-word.ensures.same
      c.if-not-is_empty_at.ensures (g.W.Words.log c.fill.new.words) c.if-not-fill.ensures;
  others = missed_others (queue_in (g.W.Words.log c.args.words.now).scene c.args.queue) (g.W.Words.log c.args.words.now) refl
      c.args.bucket c.args.length c.requires.clear c.find_turn-word.result (g.W.Words.log c.find_turn-word.new.words)
      c.find_turn-word.ensures.turn c.find_turn-word.ensures.same
      c.if-not-is_empty_at.ensures (g.W.Words.log c.fill.new.words) c.if-not-fill.ensures;
  grows = missed_grows (queue_in (g.W.Words.log c.args.words.now).scene c.args.queue) (g.W.Words.log c.args.words.now) refl
      c.args.bucket c.args.length c.requires.clear c.find_turn-word.result (g.W.Words.log c.find_turn-word.new.words)
      c.find_turn-word.ensures.turn c.find_turn-word.ensures.same
      c.if-not-is_empty_at.ensures (g.W.Words.log c.fill.new.words) c.if-not-fill.ensures;
}

pub after-requires : goal.after-requires
after-requires g c = record {
  depth = c.requires.depth;
  fits = c.requires.fits;
  slot = c.find_turn-word.ensures.turn.2.0.0;
  lap = c.find_turn-word.ensures.turn.2.0.1;
}

pub returns : goal.returns
returns g c = record {
  sends = try_sent (queue_in (g.W.Words.log c.args.words.now).scene c.args.queue) (g.W.Words.log c.args.words.now) refl
      c.args.bucket c.args.length c.requires.clear c.find_turn-word.result (g.W.Words.log c.find_turn-word.new.words)
      c.find_turn-word.ensures.turn c.find_turn-word.ensures.same
      c.if-not-is_empty_at.ensures (g.W.Words.log c.fill.new.words) c.requires.depth c.if-not-fill.ensures;
  tail = subst (λ (p : Position). KnowsTail (queue_in (g.W.Words.log c.args.words.now).scene c.args.queue)
      (g.W.Words.log c.fill.new.words).events p) (sym (c.after.ensures (g.W.Words.log c.args.words.now).scene))
      (sent_tail (queue_in (g.W.Words.log c.args.words.now).scene c.args.queue) (g.W.Words.log c.args.words.now) refl
      c.args.bucket c.args.length c.requires.clear c.find_turn-word.result (g.W.Words.log c.find_turn-word.new.words)
      c.find_turn-word.ensures.turn c.find_turn-word.ensures.same
      c.if-not-is_empty_at.ensures (g.W.Words.log c.fill.new.words) c.requires.depth c.if-not-fill.ensures);
  obeys = sent_obeys (queue_in (g.W.Words.log c.args.words.now).scene c.args.queue) (g.W.Words.log c.args.words.now) refl
      c.args.bucket c.args.length c.requires.clear c.find_turn-word.result (g.W.Words.log c.find_turn-word.new.words)
      c.find_turn-word.ensures.turn c.find_turn-word.ensures.same
      c.if-not-is_empty_at.ensures (g.W.Words.log c.fill.new.words) c.requires.depth c.if-not-fill.ensures;
  others = sent_others (queue_in (g.W.Words.log c.args.words.now).scene c.args.queue) (g.W.Words.log c.args.words.now) refl
      c.args.bucket c.args.length c.requires.clear c.find_turn-word.result (g.W.Words.log c.find_turn-word.new.words)
      c.find_turn-word.ensures.turn c.find_turn-word.ensures.same
      c.if-not-is_empty_at.ensures (g.W.Words.log c.fill.new.words) c.requires.depth c.if-not-fill.ensures;
  grows = sent_grows (queue_in (g.W.Words.log c.args.words.now).scene c.args.queue) (g.W.Words.log c.args.words.now) refl
      c.args.bucket c.args.length c.requires.clear c.find_turn-word.result (g.W.Words.log c.find_turn-word.new.words)
      c.find_turn-word.ensures.turn c.find_turn-word.ensures.same
      c.if-not-is_empty_at.ensures (g.W.Words.log c.fill.new.words) c.requires.depth c.if-not-fill.ensures;
}
