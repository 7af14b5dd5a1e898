use Rattle.bb_memory_file.proofs.FileBuckets.{detached}
use Rattle.bb_memory_file.proofs.calls.detach.Goals as goal

pub returns : goal.returns
returns g c process =
    detached process (g.W.Words.log c.args.words.now) c.args.bucket _ _ c.requires.clear c.party.ensures c.store_flag.ensures
