use Rattle.bb_memory_file.proofs.FileMessages.{back}
use Rattle.bb_memory_file.proofs.calls.put_back.Goals as goal

pub returns-in-In : goal.returns-in-In
returns-in-In g c process =
    back process (g.W.Words.log c.args.words.now) c.args.bucket _ _ c.in-In.slot c.in-In.lap c.in-In.ensures.found c.store_flag.ensures
