use Rattle.bb_memory_file.proofs.FileMessages.{given_up, posted}
use Rattle.bb_memory_file.proofs.calls.fill.Goals as goal

pub returns-then-not-exchange_slot : goal.returns-then-not-exchange_slot
returns-then-not-exchange_slot g c process =
    given_up process (g.W.Words.log c.args.words.now) c.args.slot c.args.bucket c.args.length c.args.lap c.requires.clear _ _ _
    c.store_entry.ensures c.if-not-exchange_slot.ensures c.store_entry-then-not-exchange_slot.ensures

pub returns : goal.returns
returns g c process =
    posted process (g.W.Words.log c.args.words.now) c.args.slot c.args.bucket c.args.length c.args.lap c.requires.clear _ _ _
    c.store_entry.ensures c.if-not-exchange_slot.ensures c.store_flag.ensures
