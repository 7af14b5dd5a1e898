use Rattle.bb_memory_file.proofs.FileQueueOldest.{found_oldest_as, head_at, oldest_since}
use Rattle.bb_memory_file.proofs.FileQueueWalks.{same_on, same_scene, stops_look, stops_same}
use Rattle.bb_memory_file.proofs.queues.find_oldest.Goals.{in-Some+else-lap_said-stop, in_default}
use Rattle.bb_memory_file.proofs.queues.find_oldest.Goals as goal
use Rattle.bb_memory_file.specs.FileQueueCalls.{IsOver, Looks, nothing}
use Rattle.bb_memory_file.specs.FileQueueLooks.{KnowsHead, Position, queue_in}
use Rattle.bb_memory_file.specs.FileQueueSteps.{KnowsSame}
use Rattle.bb_memory_file_machine.specs.FileMachine.{FileScene}
use Rattle.bb_memory_file_machine.specs.FileQueues.{IsWhole}
use Rattle.std.proofs.Common.{Option, refl, subst, sym, ◌∙◌}
use Rattle.std.specs.Prelude.{IfSome}

pub returns-then-lap_said-stop : goal.returns-then-lap_said-stop
returns-then-lap_said-stop g c =
    let old = g.W.Words.log c.args.words.now in
    let new = g.W.Words.log c.pass_over-stop.new.words in
    let queue = queue_in old.scene c.args.queue in
    let knows = subst (λ (head : Option Position). IfSome head (λ position. KnowsHead queue old.events position)) c.in-Some.is
    c.requires.head in
    record {
      oldest = head_at queue c.requires.depth old c.in-Some.head knows c.pass_over-stop.result new c.pass_over-stop.ensures
          (sym c.lap_said.ensures.said ∙ c.if-lap_said-stop.true);
      same = stops_same IsOver queue old c.in-Some.head c.pass_over-stop.result new c.pass_over-stop.ensures;
    }

pub find_anew-requires-clause-whole : goal.find_anew-requires-clause-whole
find_anew-requires-clause-whole g c =
    let old = g.W.Words.log c.args.words.now in
    let queue = queue_in old.scene c.args.queue in
    let seen : Looks old (g.W.Words.log c.match-head.words) = elim c.match-head.branch [
      | in-Some+else-lap_said-stop w ↦
          subst (λ (words : g.row.W.Denot). Looks old (g.W.Words.log words)) (sym w.words-is)
          (stops_look IsOver queue old w.in-Some.head w.pass_over-stop.result (g.W.Words.log w.pass_over-stop.new.words)
          w.pass_over-stop.ensures)
      | in_default w ↦ subst (λ (words : g.row.W.Denot). Looks old (g.W.Words.log words)) (sym w.words-is) nothing
    ] in
    subst (λ (scene : FileScene). IsWhole (queue_in scene c.args.queue))
    (sym (same_scene old (g.W.Words.log c.match-head.words) seen)) c.requires.whole

pub returns : goal.returns
returns g c =
    let old = g.W.Words.log c.args.words.now in
    let middle = g.W.Words.log c.match-head.words in
    let new = g.W.Words.log c.find_anew.new.words in
    let queue = queue_in old.scene c.args.queue in
    let seen : Looks old middle = elim c.match-head.branch [
      | in-Some+else-lap_said-stop w ↦
          subst (λ (words : g.row.W.Denot). Looks old (g.W.Words.log words)) (sym w.words-is)
          (stops_look IsOver queue old w.in-Some.head w.pass_over-stop.result (g.W.Words.log w.pass_over-stop.new.words)
          w.pass_over-stop.ensures)
      | in_default w ↦ subst (λ (words : g.row.W.Denot). Looks old (g.W.Words.log words)) (sym w.words-is) nothing
    ] in
    let same : KnowsSame old middle = elim c.match-head.branch [
      | in-Some+else-lap_said-stop w ↦
          subst (λ (words : g.row.W.Denot). KnowsSame old (g.W.Words.log words)) (sym w.words-is)
          (stops_same IsOver queue old w.in-Some.head w.pass_over-stop.result (g.W.Words.log w.pass_over-stop.new.words)
          w.pass_over-stop.ensures)
      | in_default w ↦
          subst (λ (words : g.row.W.Denot). KnowsSame old (g.W.Words.log words)) (sym w.words-is) (λ bucket. refl)
    ] in
    record {
      oldest = oldest_since queue old middle c.find_anew.result new seen
          (found_oldest_as middle.scene old.scene c.args.queue middle c.find_anew.result new (same_scene old middle seen)
          c.find_anew.ensures.oldest);
      same = same_on old middle new same c.find_anew.ensures.same;
    }
