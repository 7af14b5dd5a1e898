use Rattle.bb_memory_file.proofs.FileMessages.{got, not_sent, put_away}
use Rattle.bb_memory_file.proofs.calls.receive.Goals as goal
use Rattle.std.proofs.Common.{sym, ◌∙◌}

pub returns-then-not-exchange_flag : goal.returns-then-not-exchange_flag
returns-then-not-exchange_flag g c process =
    not_sent process (g.W.Words.log c.args.words.now) c.args.slot c.args.lap c.args.bucket c.args.size _
    c.if-not-exchange_flag.ensures

pub returns-then-is_fit : goal.returns-then-is_fit
returns-then-is_fit g c process =
    got process (g.W.Words.log c.args.words.now) c.args.slot c.args.lap c.args.bucket c.args.size c.load_entry-entry.result _ _
    c.party.result c.length_in.result c.party.ensures c.if-not-exchange_flag.ensures c.load_entry-entry.ensures.told
    (sym c.is_fit.ensures ∙ c.if-is_fit.true) c.length_in.ensures

pub returns : goal.returns
returns g c process =
    put_away process (g.W.Words.log c.args.words.now) c.args.slot c.args.lap c.args.bucket c.args.size c.load_entry-entry.result
    _ _ _ c.party.result c.party.ensures c.if-not-exchange_flag.ensures c.load_entry-entry.ensures.told
    (sym c.is_fit.ensures ∙ c.if-is_fit.false) c.store_flag.ensures
