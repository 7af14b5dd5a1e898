use Rattle.bb_memory_file.proofs.FileQueueOldest.{anew_again, anew_at, anew_back, anew_far, anew_scene, found_head_as}
use Rattle.bb_memory_file.proofs.FileQueueWalks.{loses_look, same_on, same_scene, stops_as, stops_its, stops_same}
use Rattle.bb_memory_file.proofs.queues.find_anew.Goals as goal
use Rattle.bb_memory_file.specs.FileQueueCalls.{IsOver, Loses, unbeaten}
use Rattle.bb_memory_file.specs.FileQueueLooks.{queue_in}
use Rattle.bb_memory_file_machine.specs.FileMachine.{FileScene}
use Rattle.bb_memory_file_machine.specs.FileQueues.{IsWhole}
use Rattle.std.proofs.Common.{None, arith, refl, subst, sym, ℕ, ◌∙◌, ◌≡◌}
use Rattle.std.specs.Prelude.{◌^◌}

pub loop-attempt-init : goal.loop-attempt-init
loop-attempt-init g c = record { lost = unbeaten; same = λ bucket. refl; most = omega arith }

pub find_head-requires-clause-whole : goal.find_head-requires-clause-whole
find_head-requires-clause-whole g c =
    let old = g.W.Words.log c.args.words.now in
    subst (λ (scene : FileScene). IsWhole (queue_in scene c.args.queue))
    (sym (same_scene old (g.W.Words.log c.loop-attempt.words) (loses_look (queue_in old.scene c.args.queue) old c.loop-attempt._attempt
    (g.W.Words.log c.loop-attempt.words) c.loop-attempt.invariant.lost))) c.requires.whole

pub returns-in_default : goal.returns-in_default
returns-in_default g c =
    let old = g.W.Words.log c.args.words.now in
    let middle = g.W.Words.log c.loop-attempt.words in
    record {
      oldest = anew_far (queue_in (g.W.Words.log c.args.words.now).scene c.args.queue) (g.W.Words.log c.args.words.now)
          (g.W.Words.log c.loop-attempt.words) c.loop-attempt._attempt c.loop-attempt.invariant.lost (g.W.Words.log c.find_head.new.words)
          c.find_head.ensures.looks
          (found_head_as middle.scene old.scene c.args.queue middle None (g.W.Words.log c.find_head.new.words)
          (same_scene old middle (loses_look (queue_in old.scene c.args.queue) old c.loop-attempt._attempt middle
          c.loop-attempt.invariant.lost)) c.in_default.ensures.head);
      same = same_on old middle (g.W.Words.log c.find_head.new.words) c.loop-attempt.invariant.same c.in_default.ensures.same;
    }

pub pass_over-stop-requires-clause-whole : goal.pass_over-stop-requires-clause-whole
pass_over-stop-requires-clause-whole g c =
    subst (λ (scene : FileScene). IsWhole (queue_in scene c.args.queue)) (sym (anew_scene (queue_in (g.W.Words.log c.args.words.now).scene c.args.queue) (g.W.Words.log c.args.words.now)
    (g.W.Words.log c.loop-attempt.words) c.loop-attempt._attempt c.loop-attempt.invariant.lost (g.W.Words.log c.find_head.new.words)
    c.in-Some.ensures.looks)) c.requires.whole

pub returns-then-lap_said-stop : goal.returns-then-lap_said-stop
returns-then-lap_said-stop g c = record {
  oldest = anew_at (queue_in (g.W.Words.log c.args.words.now).scene c.args.queue) (g.W.Words.log c.args.words.now)
      (g.W.Words.log c.loop-attempt.words) c.loop-attempt._attempt c.loop-attempt.invariant.lost (g.W.Words.log c.find_head.new.words)
      c.in-Some.ensures.looks
      c.requires.depth c.in-Some.head c.in-Some.ensures.head c.pass_over-stop.result (g.W.Words.log c.pass_over-stop.new.words)
      (stops_as IsOver (g.W.Words.log c.find_head.new.words).scene (g.W.Words.log c.args.words.now).scene c.args.queue
      (g.W.Words.log c.find_head.new.words) c.in-Some.head c.pass_over-stop.result (g.W.Words.log c.pass_over-stop.new.words)
      (anew_scene (queue_in (g.W.Words.log c.args.words.now).scene c.args.queue) (g.W.Words.log c.args.words.now)
      (g.W.Words.log c.loop-attempt.words) c.loop-attempt._attempt c.loop-attempt.invariant.lost (g.W.Words.log c.find_head.new.words)
      c.in-Some.ensures.looks) c.pass_over-stop.ensures)
      (sym c.lap_said.ensures.said ∙ c.if-lap_said-stop.true);
  same = same_on (g.W.Words.log c.args.words.now) (g.W.Words.log c.loop-attempt.words) (g.W.Words.log c.pass_over-stop.new.words)
      c.loop-attempt.invariant.same
      (same_on (g.W.Words.log c.loop-attempt.words) (g.W.Words.log c.find_head.new.words) (g.W.Words.log c.pass_over-stop.new.words)
      c.in-Some.ensures.same
      (stops_same IsOver (queue_in (g.W.Words.log c.find_head.new.words).scene c.args.queue) (g.W.Words.log c.find_head.new.words)
      c.in-Some.head c.pass_over-stop.result (g.W.Words.log c.pass_over-stop.new.words) c.pass_over-stop.ensures));
}

pub is_over-requires-clause-lap : goal.is_over-requires-clause-lap
is_over-requires-clause-lap g c =
    (stops_its IsOver (queue_in (g.W.Words.log c.find_head.new.words).scene c.args.queue) (g.W.Words.log c.find_head.new.words)
    c.in-Some.head c.pass_over-stop.result (g.W.Words.log c.pass_over-stop.new.words) c.pass_over-stop.ensures c.requires.depth
    c.in-Some.ensures.head.0.0).1

pub returns-then-not-is_over : goal.returns-then-not-is_over
returns-then-not-is_over g c = record {
  oldest = anew_back (queue_in (g.W.Words.log c.args.words.now).scene c.args.queue) (g.W.Words.log c.args.words.now)
      (g.W.Words.log c.loop-attempt.words) c.loop-attempt._attempt c.loop-attempt.invariant.lost (g.W.Words.log c.find_head.new.words)
      c.in-Some.ensures.looks
      c.requires.depth c.in-Some.head c.in-Some.ensures.head c.pass_over-stop.result (g.W.Words.log c.pass_over-stop.new.words)
      (stops_as IsOver (g.W.Words.log c.find_head.new.words).scene (g.W.Words.log c.args.words.now).scene c.args.queue
      (g.W.Words.log c.find_head.new.words) c.in-Some.head c.pass_over-stop.result (g.W.Words.log c.pass_over-stop.new.words)
      (anew_scene (queue_in (g.W.Words.log c.args.words.now).scene c.args.queue) (g.W.Words.log c.args.words.now)
      (g.W.Words.log c.loop-attempt.words) c.loop-attempt._attempt c.loop-attempt.invariant.lost (g.W.Words.log c.find_head.new.words)
      c.in-Some.ensures.looks) c.pass_over-stop.ensures)
      (λ at. c.if-lap_said-stop.false (c.lap_said.ensures.said ∙ at)) c.if-not-is_over.ensures;
  same = same_on (g.W.Words.log c.args.words.now) (g.W.Words.log c.loop-attempt.words) (g.W.Words.log c.pass_over-stop.new.words)
      c.loop-attempt.invariant.same
      (same_on (g.W.Words.log c.loop-attempt.words) (g.W.Words.log c.find_head.new.words) (g.W.Words.log c.pass_over-stop.new.words)
      c.in-Some.ensures.same
      (stops_same IsOver (queue_in (g.W.Words.log c.find_head.new.words).scene c.args.queue) (g.W.Words.log c.find_head.new.words)
      c.in-Some.head c.pass_over-stop.result (g.W.Words.log c.pass_over-stop.new.words) c.pass_over-stop.ensures));
}

pub loop-attempt-preserved : goal.loop-attempt-preserved
loop-attempt-preserved g c = record {
  lost = anew_again (queue_in (g.W.Words.log c.args.words.now).scene c.args.queue) (g.W.Words.log c.args.words.now)
      (g.W.Words.log c.loop-attempt.words) c.loop-attempt._attempt c.loop-attempt.invariant.lost (g.W.Words.log c.find_head.new.words)
      c.in-Some.ensures.looks
      c.requires.depth c.in-Some.head c.in-Some.ensures.head c.pass_over-stop.result (g.W.Words.log c.pass_over-stop.new.words)
      (stops_as IsOver (g.W.Words.log c.find_head.new.words).scene (g.W.Words.log c.args.words.now).scene c.args.queue
      (g.W.Words.log c.find_head.new.words) c.in-Some.head c.pass_over-stop.result (g.W.Words.log c.pass_over-stop.new.words)
      (anew_scene (queue_in (g.W.Words.log c.args.words.now).scene c.args.queue) (g.W.Words.log c.args.words.now)
      (g.W.Words.log c.loop-attempt.words) c.loop-attempt._attempt c.loop-attempt.invariant.lost (g.W.Words.log c.find_head.new.words)
      c.in-Some.ensures.looks) c.pass_over-stop.ensures)
      c.if-not-is_over.ensures;
  same = same_on (g.W.Words.log c.args.words.now) (g.W.Words.log c.loop-attempt.words) (g.W.Words.log c.pass_over-stop.new.words)
      c.loop-attempt.invariant.same
      (same_on (g.W.Words.log c.loop-attempt.words) (g.W.Words.log c.find_head.new.words) (g.W.Words.log c.pass_over-stop.new.words)
      c.in-Some.ensures.same
      (stops_same IsOver (queue_in (g.W.Words.log c.find_head.new.words).scene c.args.queue) (g.W.Words.log c.find_head.new.words)
      c.in-Some.head c.pass_over-stop.result (g.W.Words.log c.pass_over-stop.new.words) c.pass_over-stop.ensures));
  most = (let less = c.loop-attempt-test.true in omega (arith, less));
}

pub returns : goal.returns
returns g c =
    let past = c.loop-attempt-test.false in
    let most = c.loop-attempt.invariant.most in
    let all : c.loop-attempt._attempt ≡ 2 ^ 16 = omega (arith, past, most) in
    record {
      oldest = subst (λ (n : ℕ). Loses (queue_in (g.W.Words.log c.args.words.now).scene c.args.queue) (g.W.Words.log c.args.words.now) n
          (g.W.Words.log c.loop-attempt.words)) all c.loop-attempt.invariant.lost;
      same = c.loop-attempt.invariant.same;
    }
