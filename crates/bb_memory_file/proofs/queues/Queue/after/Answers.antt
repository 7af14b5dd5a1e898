use Rattle.bb_memory_file.proofs.FileQueueSlots.{below_end}
use Rattle.bb_memory_file.proofs.queues.Queue.after.Goals as goal
use Rattle.std.proofs.Common.{arith}

pub overflow_add-slot : goal.overflow_add-slot
overflow_add-slot c =
    let less = below_end c.args.self.number c.args.self.depth c.requires.depth c.args.position.slot c.requires.slot in
    let fits = c.requires.fits in omega (arith, less, fits)
