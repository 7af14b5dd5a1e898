use Rattle.bb_memory_file.proofs.FileSettlers.{gives_all_back}
use Rattle.bb_memory_file.proofs.calls.give_all_back.Goals as goal

pub returns : goal.returns
returns g c process =
    gives_all_back process (g.W.Words.log c.args.words.now) (g.W.Words.log c.settle.new.words) c.settle.result
    (c.settle.ensures process)
