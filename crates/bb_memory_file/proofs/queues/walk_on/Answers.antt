use Rattle.bb_memory_file.proofs.FileQueueReceipts.{Walking, one_look, one_noted, passed_look, passed_over, seen_new, walk_empty, walk_sent, walk_wrong, walking_begins, walking_below, walking_ends, walking_on}
use Rattle.bb_memory_file.proofs.queues.walk_on.Goals.{else-not-is_over, then-not-is_over+in-Unsent}
use Rattle.bb_memory_file.proofs.queues.walk_on.Goals as goal
use Rattle.bb_memory_file.specs.FileQueueCalls.{nothing}
use Rattle.bb_memory_file.specs.FileQueueLooks.{queue_in}
use Rattle.std.proofs.Common.{arith, refl, subst, sym, ◌+◌}

pub loop-passed-init : goal.loop-passed-init
loop-passed-init g c = record {
  walking = walking_begins (queue_in (g.W.Words.log c.args.words.now).scene c.args.queue) c.args.notes.now
      (g.W.Words.log c.args.words.now) c.args.head c.requires.noted c.requires.head;
}

pub load_slot-word-requires : goal.load_slot-word-requires
load_slot-word-requires g c =
    walking_below (queue_in (g.W.Words.log c.args.words.now).scene c.args.queue) c.args.notes.now
    (g.W.Words.log c.args.words.now) c.args.head c.loop-passed.passed c.loop-passed.position (g.W.Words.log c.loop-passed.words)
    c.loop-passed.invariant.walking c.requires.whole
    c.requires.depth refl

pub look_at-requires-clause-noted : goal.look_at-requires-clause-noted
look_at-requires-clause-noted g c =
    one_noted (queue_in (g.W.Words.log c.args.words.now).scene c.args.queue) c.args.notes.now
    (g.W.Words.log c.args.words.now) c.args.head c.loop-passed.passed c.loop-passed.position (g.W.Words.log c.loop-passed.words)
    c.loop-passed.invariant.walking
    (g.W.Words.log c.load_slot-word.new.self) c.load_slot-word.result c.load_slot-word.ensures.told

pub look_at-requires-clause-look : goal.look_at-requires-clause-look
look_at-requires-clause-look g c =
    one_look (queue_in (g.W.Words.log c.args.words.now).scene c.args.queue) c.args.notes.now
    (g.W.Words.log c.args.words.now) c.args.head c.loop-passed.passed c.loop-passed.position (g.W.Words.log c.loop-passed.words)
    c.loop-passed.invariant.walking
    (g.W.Words.log c.load_slot-word.new.self) c.load_slot-word.result c.load_slot-word.ensures.told

pub returns-in-Sent : goal.returns-in-Sent
returns-in-Sent g c = record {
  walks = walk_sent (queue_in (g.W.Words.log c.args.words.now).scene c.args.queue) c.args.notes.now
      (g.W.Words.log c.args.words.now) c.args.head c.loop-passed.passed c.loop-passed.position (g.W.Words.log c.loop-passed.words)
      c.loop-passed.invariant.walking
      (g.W.Words.log c.load_slot-word.new.self) c.load_slot-word.result c.load_slot-word.ensures.told
      (g.W.Words.log c.look_at.new.words) c.look_at.ensures.looks c.look_at.ensures.noted c.args.slots
      c.loop-passed-test.true c.in-Sent.bucket c.in-Sent.ensures.finds;
  looks = seen_new (queue_in (g.W.Words.log c.args.words.now).scene c.args.queue) c.args.notes.now
      (g.W.Words.log c.args.words.now) c.args.head c.loop-passed.passed c.loop-passed.position (g.W.Words.log c.loop-passed.words)
      c.loop-passed.invariant.walking
      (g.W.Words.log c.load_slot-word.new.self) c.load_slot-word.result c.load_slot-word.ensures.told
      (g.W.Words.log c.look_at.new.words) c.look_at.ensures.looks c.look_at.ensures.noted;
  noted = c.in-Sent.ensures.noted;
}

pub returns-in-Empty : goal.returns-in-Empty
returns-in-Empty g c = record {
  walks = walk_empty (queue_in (g.W.Words.log c.args.words.now).scene c.args.queue) c.args.notes.now
      (g.W.Words.log c.args.words.now) c.args.head c.loop-passed.passed c.loop-passed.position (g.W.Words.log c.loop-passed.words)
      c.loop-passed.invariant.walking
      (g.W.Words.log c.load_slot-word.new.self) c.load_slot-word.result c.load_slot-word.ensures.told
      (g.W.Words.log c.look_at.new.words) c.look_at.ensures.looks c.look_at.ensures.noted c.args.slots
      c.loop-passed-test.true c.in-Empty.ensures.finds;
  looks = seen_new (queue_in (g.W.Words.log c.args.words.now).scene c.args.queue) c.args.notes.now
      (g.W.Words.log c.args.words.now) c.args.head c.loop-passed.passed c.loop-passed.position (g.W.Words.log c.loop-passed.words)
      c.loop-passed.invariant.walking
      (g.W.Words.log c.load_slot-word.new.self) c.load_slot-word.result c.load_slot-word.ensures.told
      (g.W.Words.log c.look_at.new.words) c.look_at.ensures.looks c.look_at.ensures.noted;
  noted = c.in-Empty.ensures.noted;
}

pub returns-in-Wrong : goal.returns-in-Wrong
returns-in-Wrong g c = record {
  walks = walk_wrong (queue_in (g.W.Words.log c.args.words.now).scene c.args.queue) c.args.notes.now
      (g.W.Words.log c.args.words.now) c.args.head c.loop-passed.passed c.loop-passed.position (g.W.Words.log c.loop-passed.words)
      c.loop-passed.invariant.walking
      (g.W.Words.log c.load_slot-word.new.self) c.load_slot-word.result c.load_slot-word.ensures.told
      (g.W.Words.log c.look_at.new.words) c.look_at.ensures.looks c.look_at.ensures.noted c.args.slots
      c.loop-passed-test.true c.if-not-is_over.ensures c.in-Wrong.ensures.finds;
  looks = seen_new (queue_in (g.W.Words.log c.args.words.now).scene c.args.queue) c.args.notes.now
      (g.W.Words.log c.args.words.now) c.args.head c.loop-passed.passed c.loop-passed.position (g.W.Words.log c.loop-passed.words)
      c.loop-passed.invariant.walking
      (g.W.Words.log c.load_slot-word.new.self) c.load_slot-word.result c.load_slot-word.ensures.told
      (g.W.Words.log c.look_at.new.words) c.look_at.ensures.looks c.look_at.ensures.noted;
  noted = c.in-Wrong.ensures.noted;
}

pub loop-passed-preserved : goal.loop-passed-preserved
loop-passed-preserved g c = record {
  walking = elim c.if-not-is_over.branch [
    | then-not-is_over+in-Unsent w ↦
        subst (λ (words : g.row.W.Denot). Walking (queue_in (g.W.Words.log c.args.words.now).scene c.args.queue) c.args.notes.now
        (g.W.Words.log c.args.words.now) c.args.head (c.loop-passed.passed + 1) c.after-position.result (g.W.Words.log words))
        (sym w.words-is)
        (walking_on (queue_in (g.W.Words.log c.args.words.now).scene c.args.queue) c.args.notes.now
        (g.W.Words.log c.args.words.now) c.args.head c.loop-passed.passed c.loop-passed.position (g.W.Words.log c.loop-passed.words)
        c.loop-passed.invariant.walking
        (g.W.Words.log c.load_slot-word.new.self) c.load_slot-word.result c.load_slot-word.ensures.told
        (g.W.Words.log w.look_at.new.words) w.look_at.ensures.looks w.look_at.ensures.noted
        c.requires.depth c.after-position.result (c.after-position.ensures (g.W.Words.log c.args.words.now).scene)
        (passed_look (queue_in (g.W.Words.log c.args.words.now).scene c.args.queue) c.args.notes.now
        (g.W.Words.log c.args.words.now) c.args.head c.loop-passed.passed c.loop-passed.position (g.W.Words.log c.loop-passed.words)
        c.loop-passed.invariant.walking
        (g.W.Words.log c.load_slot-word.new.self) c.load_slot-word.result c.load_slot-word.ensures.told
        (g.W.Words.log w.look_at.new.words) w.look_at.ensures.looks w.look_at.ensures.noted w.in-Unsent.ensures.finds))
    | else-not-is_over w ↦
        subst (λ (words : g.row.W.Denot). Walking (queue_in (g.W.Words.log c.args.words.now).scene c.args.queue) c.args.notes.now
        (g.W.Words.log c.args.words.now) c.args.head (c.loop-passed.passed + 1) c.after-position.result (g.W.Words.log words))
        (sym w.words-is)
        (walking_on (queue_in (g.W.Words.log c.args.words.now).scene c.args.queue) c.args.notes.now
        (g.W.Words.log c.args.words.now) c.args.head c.loop-passed.passed c.loop-passed.position (g.W.Words.log c.loop-passed.words)
        c.loop-passed.invariant.walking
        (g.W.Words.log c.load_slot-word.new.self) c.load_slot-word.result c.load_slot-word.ensures.told
        (g.W.Words.log c.load_slot-word.new.self) nothing
        (one_noted (queue_in (g.W.Words.log c.args.words.now).scene c.args.queue) c.args.notes.now
        (g.W.Words.log c.args.words.now) c.args.head c.loop-passed.passed c.loop-passed.position (g.W.Words.log c.loop-passed.words)
        c.loop-passed.invariant.walking
        (g.W.Words.log c.load_slot-word.new.self) c.load_slot-word.result c.load_slot-word.ensures.told)
        c.requires.depth c.after-position.result (c.after-position.ensures (g.W.Words.log c.args.words.now).scene)
        (passed_over (queue_in (g.W.Words.log c.args.words.now).scene c.args.queue) c.args.notes.now
        (g.W.Words.log c.args.words.now) c.args.head c.loop-passed.passed c.loop-passed.position (g.W.Words.log c.loop-passed.words)
        c.loop-passed.invariant.walking
        (g.W.Words.log c.load_slot-word.new.self) c.load_slot-word.result c.load_slot-word.ensures.told (g.W.Words.log c.load_slot-word.new.self) nothing
        (one_noted (queue_in (g.W.Words.log c.args.words.now).scene c.args.queue) c.args.notes.now
        (g.W.Words.log c.args.words.now) c.args.head c.loop-passed.passed c.loop-passed.position (g.W.Words.log c.loop-passed.words)
        c.loop-passed.invariant.walking
        (g.W.Words.log c.load_slot-word.new.self) c.load_slot-word.result c.load_slot-word.ensures.told) w.if-not-is_over.ensures))
  ];
}

pub returns : goal.returns
returns g c = record {
  walks = λ less below.
      let past = c.loop-passed-test.false in
      walking_ends (queue_in (g.W.Words.log c.args.words.now).scene c.args.queue) c.args.notes.now
      (g.W.Words.log c.args.words.now) c.args.head c.loop-passed.passed c.loop-passed.position (g.W.Words.log c.loop-passed.words)
      c.loop-passed.invariant.walking less
      (omega (arith, below, past));
  looks = c.loop-passed.invariant.walking.seen;
  noted = c.loop-passed.invariant.walking.noted;
}
