use Rattle.bb_memory_owned.proofs.heap_allocator.HeapAllocator.grow.Goals as goal
use Rattle.std.proofs.Common.{arith}
use Rattle.std.proofs.lemmas.Grind.{elements}

pub returns-in-Ok : goal.returns-in-Ok
returns-in-Ok c = grind (arith, elements)
