use Rattle.bb_memory_file.proofs.FileBuckets.{deallocated}
use Rattle.bb_memory_file.proofs.calls.deallocate.Goals as goal

pub returns : goal.returns
returns g c process =
    deallocated process (g.W.Words.log c.args.words.now) c.args.bucket _ c.requires.clear c.store_flag.ensures
