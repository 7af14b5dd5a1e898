use Rattle.bb_memory_bump.proofs.shared_bump.SharedBumpAllocator.come.Given as goal

-- the stand-in has the view of the party's seat
abbrev pub ghosts-like : goal.ghosts-like
ghosts-like a = record { view = a.seat.now.me.0 }
