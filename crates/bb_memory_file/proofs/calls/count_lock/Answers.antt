use Rattle.bb_memory_file.proofs.FileSettlers.{counted_lock}
use Rattle.bb_memory_file.proofs.calls.count_lock.Goals as goal

pub returns : goal.returns
returns g c process =
    counted_lock process (g.W.Words.log c.args.words.now) c.load_life-life.result _ _ c.load_life-life.ensures c.store_life.ensures
    c.if-life.false
