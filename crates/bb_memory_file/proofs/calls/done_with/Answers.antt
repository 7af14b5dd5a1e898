use Rattle.bb_memory_file.proofs.FileQueueDone.{done_at, done_obeys, done_others, looked_done, looked_obeys}
use Rattle.bb_memory_file.proofs.calls.done_with.Goals as goal

pub returns-in-In : goal.returns-in-In
returns-in-In g c =
    let old = g.W.Words.log c.args.words.now in
    record {
      done = λ process. done_at old c.args.bucket c.in-In.slot c.in-In.lap _ _ c.in-In.ensures.found process c.in-In.ensures.slot
          (c.done.ensures process);
      others = done_others old c.args.bucket c.in-In.slot c.in-In.lap _ _ c.in-In.ensures.found (c.done.ensures 0);
      obeys = done_obeys old c.args.bucket c.in-In.slot c.in-In.lap _ _ c.in-In.ensures.found (c.done.ensures 0);
    }

pub returns-in_default : goal.returns-in_default
returns-in_default g c =
    let old = g.W.Words.log c.args.words.now in
    record {
      done = λ process. looked_done old c.args.bucket process c.find-place.result _ c.in_default.not-In c.find-place.ensures.found;
      others = c.find-place.ensures.found.others;
      obeys = looked_obeys old c.args.bucket c.find-place.result _ c.find-place.ensures.found;
    }
