use Rattle.bb_memory_c.proofs.FileParties.{received-below, received-same}
use Rattle.bb_memory_c.proofs.file_party.JoinedFile.receive.Goals as goal
use Rattle.std.proofs.Common.{sym, ◌∙◌}

pub invariant_of-self : goal.invariant_of-self
invariant_of-self c = c.self.invariant
    ∙ sym (received-same c.self.inside.party c.args.queue _ c.receive-taken.result c.receive-taken.new.self c.receive-taken.ensures)

pub message_of-requires : goal.message_of-requires
message_of-requires c =
    let long = rw (← c.self.view_is) at c.invariant.ensures.noted in
    received-below c.self.inside.party c.args.queue _ c.receive-taken.result c.receive-taken.new.self c.self.inside.places long c.receive-taken.ensures
