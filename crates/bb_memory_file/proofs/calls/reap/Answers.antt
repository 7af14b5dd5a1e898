use Rattle.bb_memory_file.proofs.FileSettlers.{reaped}
use Rattle.bb_memory_file.proofs.calls.reap.Goals.{else-life-eq1, then-life-eq1}
use Rattle.bb_memory_file.proofs.calls.reap.Goals as goal
use Rattle.bb_memory_file.specs.FileCalls.{is_whose}
use Rattle.bb_memory_pool_machine.proofs.PoolSteps.{test_same}
use Rattle.std.proofs.Common.{◌%◌, ◌≡◌}
use Rattle.std.proofs.lemmas.Bool.{ne_eqb}

pub returns : goal.returns
returns g c process =
    let whose : c.if-life-eq1.detached ≡ is_whose c.args.dead c.args.left c.in-Some.life =
    elim c.if-life-eq1.branch [
      | then-life-eq1 w ↦ rw (test_same (c.in-Some.life % 2) 1 w.if-life-eq1.true) w.detached-is
      | else-life-eq1 w ↦ rw (ne_eqb (c.in-Some.life % 2) 1 w.if-life-eq1.false) w.detached-is
    ] in
    reaped process (g.W.Words.log c.args.words.now) (g.W.Words.log c.count_lock.new.words) (g.W.Words.log c.settle.new.words)
    c.in-Some.life c.settle.result (c.in-Some.ensures process) c.args.dead c.args.left c.if-life-eq1.detached whose
    (c.settle.ensures process)
