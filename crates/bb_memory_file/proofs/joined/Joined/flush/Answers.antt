use Rattle.bb_memory_file.proofs.FileFlushes.{fewer, flushed_all, flushed_none, flushed_on}
use Rattle.bb_memory_file.proofs.joined.Joined.flush.Goals as goal
use Rattle.std.proofs.Common.{[], ◌∷◌}

pub loop-init : goal.loop-init
loop-init g c = ([], flushed_none g.W.Words.log c.args.self.now)

pub loop-smaller : goal.loop-smaller
loop-smaller g c = fewer g.row.W.Denot g.W.Words.log c.loop.self c.free_last.new.self c.loop-test.ensures

pub loop-preserved : goal.loop-preserved
loop-preserved g c = (
  c.loop-test.ensures.1 ∷ c.loop.invariant.0,
  flushed_on g.W.Words.log c.args.self.now c.loop.invariant.0 c.loop.self c.free_last.new.self c.loop.invariant.1
      c.loop-test.ensures,
)

pub returns : goal.returns
returns g c =
    flushed_all g.W.Words.log c.args.self.now c.loop.invariant.0 c.loop.self c.free_last.new.self c.loop.invariant.1
    c.loop-test.ensures
