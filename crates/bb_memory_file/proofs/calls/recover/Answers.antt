use Rattle.bb_memory_file.proofs.FileSettlers.{not_recovered, recovered}
use Rattle.bb_memory_file.proofs.calls.recover.Goals as goal
use Rattle.std.proofs.Common.{sym, ◌∙◌}

pub returns-then-is_same : goal.returns-then-is_same
returns-then-is_same g c process =
    recovered process (g.W.Words.log c.args.words.now) c.args.bucket c.exchange_flag.result _ _ c.load_flag.result
    c.party-party.result c.party-party.ensures c.load_flag.ensures c.exchange_flag.ensures

pub returns-else-is_same : goal.returns-else-is_same
returns-else-is_same g c process =
    not_recovered process (g.W.Words.log c.args.words.now) c.args.bucket _ c.load_flag.result c.party-party.result
    c.party-party.ensures c.load_flag.ensures (sym c.is_same.ensures ∙ c.if-is_same.false)
