use Rattle.bb_memory_file.proofs.FileQueueWalks.{finds_anew, finds_turn, last_since, looks_moment, looks_on, same_on, same_scene, sees_since, stops_as, stops_its, stops_look, stops_same}
use Rattle.bb_memory_file.proofs.queues.find_turn.Goals as goal
use Rattle.bb_memory_file.specs.FileQueueLooks.{queue_in}
use Rattle.bb_memory_file_machine.specs.FileQueues.{IsFilled, IsWhole}
use Rattle.std.proofs.Common.{refl, subst, sym}

pub is_turn-requires : goal.is_turn-requires
is_turn-requires g c =
    let old = g.W.Words.log c.args.words.now in record {
      lap = (stops_its IsFilled (queue_in old.scene c.args.queue) old c.args.tail c.pass_filled-stop.result _
          c.pass_filled-stop.ensures c.requires.depth c.requires.tail.0).1;
    }

pub returns-then-is_turn : goal.returns-then-is_turn
returns-then-is_turn g c =
    let old = g.W.Words.log c.args.words.now in
    let queue = queue_in old.scene c.args.queue in
    record {
      turn = finds_turn queue c.requires.depth old c.args.tail c.requires.tail c.pass_filled-stop.result _ c.pass_filled-stop.ensures
          (c.if-is_turn.ensures refl);
      same = stops_same IsFilled queue old c.args.tail c.pass_filled-stop.result _ c.pass_filled-stop.ensures;
    }

pub find_tail-tail-requires-clause-whole : goal.find_tail-tail-requires-clause-whole
find_tail-tail-requires-clause-whole g c =
    let old = g.W.Words.log c.args.words.now in
    let one = stops_look IsFilled (queue_in old.scene c.args.queue) old c.args.tail c.pass_filled-stop.result _
    c.pass_filled-stop.ensures in
    subst (λ scene. IsWhole (queue_in scene c.args.queue)) (sym (same_scene old _ one)) c.requires.whole

pub pass_filled-requires-clause-whole : goal.pass_filled-requires-clause-whole
pass_filled-requires-clause-whole g c =
    let old = g.W.Words.log c.args.words.now in
    let one = stops_look IsFilled (queue_in old.scene c.args.queue) old c.args.tail c.pass_filled-stop.result _
    c.pass_filled-stop.ensures in
    subst (λ scene. IsWhole (queue_in scene c.args.queue)) (sym (same_scene old _ (looks_on old _ one _ c.find_tail-tail.ensures.looks)))
    c.requires.whole

pub returns : goal.returns
returns g c =
    let old = g.W.Words.log c.args.words.now in
    let one = g.W.Words.log c.pass_filled-stop.new.words in
    let two = g.W.Words.log c.find_tail-tail.new.words in
    let new = g.W.Words.log c.pass_filled.new.words in
    let queue = queue_in old.scene c.args.queue in
    let first = stops_look IsFilled queue old c.args.tail c.pass_filled-stop.result one c.pass_filled-stop.ensures in
    let second = looks_on old one first two c.find_tail-tail.ensures.looks in
    let stops = stops_as IsFilled two.scene old.scene c.args.queue two c.find_tail-tail.result c.pass_filled.result new
    (same_scene old two second) c.pass_filled.ensures in
    record {
      turn = finds_anew queue c.requires.depth old two c.find_tail-tail.result c.pass_filled.result new second
          c.find_tail-tail.ensures.position
          (sees_since queue old.events one.events two.events c.find_tail-tail.result (looks_moment old one first)
          c.find_tail-tail.ensures.before)
          (last_since queue old.events one.events two.events c.find_tail-tail.result (looks_moment old one first)
          c.find_tail-tail.ensures.last) stops;
      same = same_on old one new
          (stops_same IsFilled queue old c.args.tail c.pass_filled-stop.result one c.pass_filled-stop.ensures)
          (same_on one two new c.find_tail-tail.ensures.same
          (stops_same IsFilled queue two c.find_tail-tail.result c.pass_filled.result new stops));
    }
