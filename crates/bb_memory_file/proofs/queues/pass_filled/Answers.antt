use Rattle.bb_memory_file.proofs.FileQueueWalks.{next_below, next_its, passes_on, stops_here}
use Rattle.bb_memory_file.proofs.queues.pass_filled.Goals as goal
use Rattle.bb_memory_file.specs.FileQueueCalls.{stays}
use Rattle.bb_memory_file.specs.FileQueueLooks.{queue_in}
use Rattle.bb_memory_file_machine.specs.FileQueues.{IsFilled}
use Rattle.std.proofs.Common.{arith, inl, inr, refl}

pub loop-passed-init : goal.loop-passed-init
loop-passed-init g c = record { passes = stays; most = omega arith; end = refl }

pub load_slot-word-requires : goal.load_slot-word-requires
load_slot-word-requires g c =
    next_below IsFilled (queue_in (g.W.Words.log c.args.words.now).scene c.args.queue) c.requires.depth c.requires.whole
    (g.W.Words.log c.args.words.now) refl c.args.from c.requires.from c.loop-passed._passed _ c.loop-passed.position
    c.loop-passed.invariant.passes

pub is_filled-requires-clause-lap : goal.is_filled-requires-clause-lap
is_filled-requires-clause-lap g c =
    (next_its IsFilled (queue_in (g.W.Words.log c.args.words.now).scene c.args.queue) c.requires.depth c.requires.whole
    (g.W.Words.log c.args.words.now) refl c.args.from c.requires.from c.loop-passed._passed _ c.loop-passed.position
    c.loop-passed.invariant.passes).1

pub returns-then-not-is_filled : goal.returns-then-not-is_filled
returns-then-not-is_filled g c =
    stops_here IsFilled (queue_in (g.W.Words.log c.args.words.now).scene c.args.queue) c.requires.depth c.requires.whole
    (g.W.Words.log c.args.words.now) refl c.args.from c.requires.from c.loop-passed._passed _ c.loop-passed.position
    c.loop-passed.invariant.passes _
    c.load_slot-word.result c.load_slot-word.ensures.told c.load_slot-word.ensures.lap c.loop-passed.invariant.most
    (inl c.if-not-is_filled.ensures)

pub after-position-requires-clause-slot : goal.after-position-requires-clause-slot
after-position-requires-clause-slot g c =
    (next_its IsFilled (queue_in (g.W.Words.log c.args.words.now).scene c.args.queue) c.requires.depth c.requires.whole
    (g.W.Words.log c.args.words.now) refl c.args.from c.requires.from c.loop-passed._passed _ c.loop-passed.position
    c.loop-passed.invariant.passes).0

pub after-position-requires-clause-lap : goal.after-position-requires-clause-lap
after-position-requires-clause-lap g c =
    (next_its IsFilled (queue_in (g.W.Words.log c.args.words.now).scene c.args.queue) c.requires.depth c.requires.whole
    (g.W.Words.log c.args.words.now) refl c.args.from c.requires.from c.loop-passed._passed _ c.loop-passed.position
    c.loop-passed.invariant.passes).1

pub loop-passed-preserved : goal.loop-passed-preserved
loop-passed-preserved g c = record {
  passes = passes_on IsFilled (queue_in (g.W.Words.log c.args.words.now).scene c.args.queue) c.requires.depth c.requires.whole
      (g.W.Words.log c.args.words.now) refl c.args.from c.requires.from c.loop-passed._passed _ c.loop-passed.position
      c.loop-passed.invariant.passes _
      c.load_slot-word.result c.after-position.result c.load_slot-word.ensures.told c.if-not-is_filled.ensures
      (c.after-position.ensures (g.W.Words.log c.args.words.now).scene);
  most = (let less = c.loop-passed-test.true in omega (arith, less));
  end = refl;
}

pub load_slot-word-requires-2 : goal.load_slot-word-requires-2
load_slot-word-requires-2 g c =
    next_below IsFilled (queue_in (g.W.Words.log c.args.words.now).scene c.args.queue) c.requires.depth c.requires.whole
    (g.W.Words.log c.args.words.now) refl c.args.from c.requires.from c.loop-passed._passed _ c.loop-passed.position
    c.loop-passed.invariant.passes

pub returns : goal.returns
returns g c =
    stops_here IsFilled (queue_in (g.W.Words.log c.args.words.now).scene c.args.queue) c.requires.depth c.requires.whole
    (g.W.Words.log c.args.words.now) refl c.args.from c.requires.from c.loop-passed._passed _ c.loop-passed.position
    c.loop-passed.invariant.passes _
    c.load_slot-word-2.result c.load_slot-word-2.ensures.told c.load_slot-word-2.ensures.lap c.loop-passed.invariant.most
    (inr (let past = c.loop-passed-test.false in let most = c.loop-passed.invariant.most in omega (arith, past, most)))
