use Rattle.bb_memory_shared_pools.proofs.shared_pool.flags.Flags.come.Given as goal

-- the stand-in has the view of the party's seat
abbrev pub ghosts-like : goal.ghosts-like
ghosts-like a = record { view = a.seat.now.me.0 }
