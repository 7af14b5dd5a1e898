use Rattle.bb_memory_file.proofs.FileQueueHeads.{Heading, heading_begins, heading_ends, heading_far, heading_looks, heading_moves, heading_same, heading_scene, heading_stays}
use Rattle.bb_memory_file.proofs.queues.find_head.Goals.{else-is_later, then-is_later}
use Rattle.bb_memory_file.proofs.queues.find_head.Goals as goal
use Rattle.bb_memory_file.specs.FileQueueLooks.{Position, queue_in}
use Rattle.bb_memory_file_machine.specs.FileMachine.{FileScene}
use Rattle.std.proofs.Common.{arith, subst, sym, ◌+◌, ◌<◌}

pub loop-slot-init : goal.loop-slot-init
loop-slot-init g c =
    let at = c.first-first.ensures in
    let positive = c.requires.depth in
    record {
      heading = heading_begins (queue_in (g.W.Words.log c.args.words.now).scene c.args.queue) (g.W.Words.log c.args.words.now)
          (g.W.Words.log c.load_slot.new.self) c.first-first.result c.lap_said-lap.result c.load_slot.result c.first-first.ensures
          c.load_slot.ensures.told c.lap_said-lap.ensures.said (rw c.lap_said-lap.ensures.lap c.load_slot.ensures.lap);
      end = c.end-slot-end.ensures;
      most = omega (arith, at, positive);
    }

pub load_slot-requires-in-loop-slot : goal.load_slot-requires-in-loop-slot
load_slot-requires-in-loop-slot g c =
    let end = c.loop-slot.invariant.end in
    let less = c.loop-slot-test.true in
    let whole = c.requires.whole in
    subst (λ (s : FileScene). c.loop-slot.slot < s.slots) (sym (heading_scene (queue_in (g.W.Words.log c.args.words.now).scene c.args.queue) (g.W.Words.log c.args.words.now)
    c.lap_said-lap.result c.loop-slot.slot c.loop-slot.head (g.W.Words.log c.loop-slot.words) c.loop-slot.invariant.heading))
    (omega (arith, end, less, whole))

pub returns-then-is_far : goal.returns-then-is_far
returns-then-is_far g c = record {
  head = (let end = c.loop-slot.invariant.end in
      let less = c.loop-slot-test.true in
      heading_far (queue_in (g.W.Words.log c.args.words.now).scene c.args.queue) (g.W.Words.log c.args.words.now)
      c.lap_said-lap.result c.loop-slot.slot c.loop-slot.head (g.W.Words.log c.loop-slot.words) c.loop-slot.invariant.heading
      (g.W.Words.log c.load_slot-in-loop-slot.new.self) c.load_slot-in-loop-slot.result c.lap_said-found.result
      c.load_slot-in-loop-slot.ensures.told c.lap_said-found.ensures.said
      (rw c.lap_said-found.ensures.lap c.load_slot-in-loop-slot.ensures.lap) c.requires.depth (omega (arith, end, less)) c.if-is_far.ensures);
  looks = heading_looks (queue_in (g.W.Words.log c.args.words.now).scene c.args.queue) (g.W.Words.log c.args.words.now)
      c.lap_said-lap.result c.loop-slot.slot c.loop-slot.head (g.W.Words.log c.loop-slot.words) c.loop-slot.invariant.heading
      (g.W.Words.log c.load_slot-in-loop-slot.new.self) c.load_slot-in-loop-slot.result c.lap_said-found.result
      c.load_slot-in-loop-slot.ensures.told c.lap_said-found.ensures.said
      (rw c.lap_said-found.ensures.lap c.load_slot-in-loop-slot.ensures.lap);
  same = heading_same (queue_in (g.W.Words.log c.args.words.now).scene c.args.queue) (g.W.Words.log c.args.words.now)
      c.lap_said-lap.result c.loop-slot.slot c.loop-slot.head (g.W.Words.log c.loop-slot.words) c.loop-slot.invariant.heading
      (g.W.Words.log c.load_slot-in-loop-slot.new.self) c.load_slot-in-loop-slot.result c.lap_said-found.result
      c.load_slot-in-loop-slot.ensures.told c.lap_said-found.ensures.said
      (rw c.lap_said-found.ensures.lap c.load_slot-in-loop-slot.ensures.lap);
}

pub loop-slot-preserved : goal.loop-slot-preserved
loop-slot-preserved g c = record {
  heading = elim c.if-is_later.branch [
    | then-is_later w ↦
        subst (λ (p : Position). Heading (queue_in (g.W.Words.log c.args.words.now).scene c.args.queue)
        (g.W.Words.log c.args.words.now) c.lap_said-lap.result (c.loop-slot.slot + 1) p
        (g.W.Words.log c.load_slot-in-loop-slot.new.self)) (sym w.head-is)
        (heading_moves (queue_in (g.W.Words.log c.args.words.now).scene c.args.queue) (g.W.Words.log c.args.words.now)
        c.lap_said-lap.result c.loop-slot.slot c.loop-slot.head (g.W.Words.log c.loop-slot.words) c.loop-slot.invariant.heading
        (g.W.Words.log c.load_slot-in-loop-slot.new.self) c.load_slot-in-loop-slot.result c.lap_said-found.result
        c.load_slot-in-loop-slot.ensures.told c.lap_said-found.ensures.said
        (rw c.lap_said-found.ensures.lap c.load_slot-in-loop-slot.ensures.lap) c.if-is_far.ensures w.if-is_later.ensures)
    | else-is_later w ↦
        subst (λ (p : Position). Heading (queue_in (g.W.Words.log c.args.words.now).scene c.args.queue)
        (g.W.Words.log c.args.words.now) c.lap_said-lap.result (c.loop-slot.slot + 1) p
        (g.W.Words.log c.load_slot-in-loop-slot.new.self)) (sym w.head-is)
        (heading_stays (queue_in (g.W.Words.log c.args.words.now).scene c.args.queue) (g.W.Words.log c.args.words.now)
        c.lap_said-lap.result c.loop-slot.slot c.loop-slot.head (g.W.Words.log c.loop-slot.words) c.loop-slot.invariant.heading
        (g.W.Words.log c.load_slot-in-loop-slot.new.self) c.load_slot-in-loop-slot.result c.lap_said-found.result
        c.load_slot-in-loop-slot.ensures.told c.lap_said-found.ensures.said
        (rw c.lap_said-found.ensures.lap c.load_slot-in-loop-slot.ensures.lap) c.if-is_far.ensures w.if-is_later.ensures)
  ];
  end = c.loop-slot.invariant.end;
  most = (let end = c.loop-slot.invariant.end in
      let less = c.loop-slot-test.true in omega (arith, end, less));
}

pub returns : goal.returns
returns g c = record {
  head = (let end = c.loop-slot.invariant.end in
      let past = c.loop-slot-test.false in
      heading_ends (queue_in (g.W.Words.log c.args.words.now).scene c.args.queue) (g.W.Words.log c.args.words.now)
      c.lap_said-lap.result c.loop-slot.slot c.loop-slot.head (g.W.Words.log c.loop-slot.words) c.loop-slot.invariant.heading c.requires.depth
      (omega (arith, end, past)) c.loop-slot.invariant.most);
  looks = c.loop-slot.invariant.heading.looks;
  same = c.loop-slot.invariant.heading.same;
}
