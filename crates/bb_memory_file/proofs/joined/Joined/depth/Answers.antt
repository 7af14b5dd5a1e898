use Rattle.bb_memory_file.proofs.joined.Joined.depth.Goals as goal

pub returns-clause-obeys : goal.returns-clause-obeys
returns-clause-obeys g c = rw (← c.self.view_is) c.self.invariant.5.obeys
