use Rattle.bb_memory_file.proofs.FileSettlers.{joined}
use Rattle.bb_memory_file.proofs.calls.join.Goals as goal

pub returns : goal.returns
returns g c process before life counted =
    joined process before (g.W.Words.log c.args.words.now) (g.W.Words.log c.settle.new.words) life c.settle.result counted
    (g.W.Words.log c.count_join.new.words) (c.settle.ensures process) (c.count_join.ensures process)
