use Rattle.bb_memory_file.proofs.FileMessages.{finished}
use Rattle.bb_memory_file.proofs.calls.done.Goals as goal

pub returns : goal.returns
returns g c process =
    finished process (g.W.Words.log c.args.words.now) c.args.slot c.args.bucket c.args.lap c.requires.its _ _ c.next_lap.result _
    c.empty_slot.ensures c.next_lap.ensures.next c.store_entry.ensures
