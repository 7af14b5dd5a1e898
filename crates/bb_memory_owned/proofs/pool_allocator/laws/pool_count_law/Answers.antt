use Rattle.bb_memory_owned.proofs.pool_allocator.laws.pool_count_law.Goals as goal
use Rattle.bb_memory_traits.proofs.Cuts.{cut-room, may-be-cut}

pub returns : goal.returns
returns c = record { count = cut-room; may_be_cut = may-be-cut }
