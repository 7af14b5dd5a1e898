use Rattle.bb_memory_file.proofs.FileBuckets.{attached, not_attached}
use Rattle.bb_memory_file.proofs.calls.attach.Goals as goal

pub returns-in-DetachedBy : goal.returns-in-DetachedBy
returns-in-DetachedBy g c process =
    attached process (g.W.Words.log c.args.words.now) c.args.bucket c.exchange_flag.result _ _ c.in-DetachedBy.from c.party.result
    c.in-DetachedBy.ensures c.party.ensures c.exchange_flag.ensures

pub returns-in_default : goal.returns-in_default
returns-in_default g c process =
    not_attached process (g.W.Words.log c.args.words.now) c.args.bucket _ c.load_flag.result c.load_flag.ensures
    c.in_default.not-DetachedBy
