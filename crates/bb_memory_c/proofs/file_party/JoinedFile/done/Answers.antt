use Rattle.bb_memory_c.proofs.FileParties.{done-same}
use Rattle.bb_memory_c.proofs.file_party.JoinedFile.done.Goals as goal
use Rattle.std.proofs.Common.{sym, ◌∙◌}

pub invariant_of-self : goal.invariant_of-self
invariant_of-self c = c.self.invariant ∙ sym (done-same c.self.inside.party c.args.slot c.done.result c.done.new.self c.done.ensures)
