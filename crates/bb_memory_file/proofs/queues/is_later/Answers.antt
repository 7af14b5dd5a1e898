use Rattle.bb_memory_file.proofs.FileQueueSlots.{later_tested}
use Rattle.bb_memory_file.proofs.queues.is_later.Goals as goal
use Rattle.std.proofs.Common.{refl}

pub returns-then-more-gt0 : goal.returns-then-more-gt0
returns-then-more-gt0 c =
    later_tested c.args.lap c.args.other c.requires.lap c.requires.other c.if-more-gt0.true _ refl
