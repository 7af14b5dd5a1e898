use Rattle.bb_memory_base.proofs.LongerRuns.{EachGiven-push, IsRun-listed, note-push}
use Rattle.bb_memory_base.proofs.runs.run.Goals as goal
use Rattle.bb_memory_traits.proofs.Runs.{IsRun-push}
use Rattle.std.proofs.Common.{[], ap, arith, sym, take, ◌++◌, ◌+◌, ◌∙◌, ◌∷◌, ◌≡◌}
use Rattle.std.proofs.lemmas.List.{length-take-le, take_all, take_more}

pub loop-command-preserved : goal.loop-command-preserved
loop-command-preserved g c =
    let A = g.A.BaseAllocator in
    let old = c.loop-command.invariant in
    let same = old.geometry in
    let step = c.apply-reply.ensures.step in
    let i = c.loop-command.command-index in
    let done : take (i + 1) c.args.commands.now ≡ take i c.args.commands.now ++ c.command-item.result ∷ [] =
    take_more c.args.commands.now i c.command-item.result (omega arith)
    ∙ ap (λ x. take i c.args.commands.now ++ x ∷ []) (sym c.command-item.is) in
    record {
      run = rw (done, c.push_reserved.ensures.items)
          (IsRun-push _ _ _ _ _ _ _ _ old.run (g.met.C.Applier.fixed _ _ same _ _ _ _ step.0, step.1));
      fits = rw (done, c.push_reserved.ensures.items)
          (EachGiven-push _ _ _ _ _ (omega (arith, length-take-le i c.args.commands.now (omega arith))) old.fits
          (λ layout chunk asked given. rw same at (c.apply-reply.ensures.fits layout chunk asked given)));
      stands = c.apply-reply.ensures.stands;
      geometry = c.apply-reply.ensures.geometry ∙ same;
      note = rw done (note-push (A.note_after (A.geometry c.args.allocator.now)) (A.note c.args.allocator.now)
          (take i c.args.commands.now) _ _ c.command-item.result old.note (rw same at c.apply-reply.ensures.note));
      room = omega (arith, c.apply-reply.ensures.len, c.apply-reply.ensures.capacity);
      told = omega arith;
      space = omega arith;
    }

pub returns-clause-run : goal.returns-clause-run
returns-clause-run g c =
    let A = g.A.BaseAllocator in
    let invariant = c.loop-command.invariant in
    let sound = g.met.A.BaseAllocator.sound c.loop-command.allocator c.loop-command.live.items invariant.stands in
    let all = take_all c.loop-command.command-index c.args.commands.now (omega arith) in
    record {
      run = IsRun-listed _ A.takes A.frees (c.args.allocator.now, c.args.live.now.items)
          (c.loop-command.allocator, c.loop-command.live.items) _ _ (rw all at invariant.run);
      values = rw all at invariant.run;
      stands = invariant.stands;
      sound = rw invariant.geometry at sound;
      fits = rw all at invariant.fits;
      geometry = invariant.geometry;
      unchanged = tt;
      kept = tt;
    }

pub returns-clause-note : goal.returns-clause-note
returns-clause-note g c =
    rw (take_all c.loop-command.command-index c.args.commands.now (omega arith)) at c.loop-command.invariant.note
