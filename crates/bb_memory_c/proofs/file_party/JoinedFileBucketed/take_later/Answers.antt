use Rattle.bb_memory_c.proofs.file_party.JoinedFileBucketed.take_later.Goals as goal

pub allocate_later-requires : goal.allocate_later-requires
allocate_later-requires c =
    (c.requires.0.party, rw (← c.self.view_is) at c.requires.1.0)
