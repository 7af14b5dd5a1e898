use Rattle.bb_memory_file.proofs.FileMade.{made_on}
use Rattle.bb_memory_file.proofs.party_words.FilePartyWords.load_entry.Goals as goal
use Rattle.bb_memory_file.specs.FileOperations.{loads_entry}
use Rattle.bb_memory_file.specs.Recorded.{Load, recorded}

pub invariant_of-self-clause-made : goal.invariant_of-self-clause-made
invariant_of-self-clause-made c =
    made_on c.args.self.now.geometry c.args.self.now.number (Load c.entry_at-at.result c.load.result)
    (recorded c.args.self.now.hand) (recorded c.load.new.hand) c.args.self.now.made c.load.ensures.recorded
    (rw c.entry_at-at.ensures (loads_entry c.args.bucket c.load.result c.requires))
