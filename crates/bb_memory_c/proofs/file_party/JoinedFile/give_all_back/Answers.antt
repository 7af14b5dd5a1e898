use Rattle.bb_memory_c.proofs.FileParties.{given-same}
use Rattle.bb_memory_c.proofs.file_party.JoinedFile.give_all_back.Goals as goal
use Rattle.std.proofs.Common.{sym, ◌∙◌}

pub invariant_of-self : goal.invariant_of-self
invariant_of-self c = c.self.invariant ∙ sym (given-same c.self.inside.party c.give_all_back.result c.give_all_back.new.self c.give_all_back.ensures)
