use Rattle.bb_memory_file.proofs.FileSettlers.{has_left}
use Rattle.bb_memory_file.proofs.calls.leave.Goals as goal
use Rattle.std.proofs.Common.{refl}

pub returns : goal.returns
returns g c process =
    has_left process (g.W.Words.log c.args.words.now) (g.W.Words.log c.settle-freed.new.words) c.settle-freed.result
    (g.W.Words.log c.count_leave.new.words) 0 (c.count_leave.ensures process) refl (c.settle-freed.ensures process)
