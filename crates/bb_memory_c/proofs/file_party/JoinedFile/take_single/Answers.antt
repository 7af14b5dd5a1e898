use Rattle.bb_memory_c.proofs.FileParties.{took-same}
use Rattle.bb_memory_c.proofs.file_party.JoinedFile.take_single.Goals as goal
use Rattle.std.proofs.Common.{sym, ◌∙◌}

pub invariant_of-self : goal.invariant_of-self
invariant_of-self c = c.self.invariant
    ∙ sym (took-same c.self.inside.party c.args.slot _ c.take-taken.result c.take-taken.new.self c.take-taken.ensures)
