use Rattle.bb_memory_file.proofs.FileMade.{made_on}
use Rattle.bb_memory_file.proofs.party_words.FilePartyWords.store_entry.Goals as goal
use Rattle.bb_memory_file.specs.FileOperations.{stores_entry}
use Rattle.bb_memory_file.specs.Recorded.{Store, recorded}

pub invariant_of-self-clause-made : goal.invariant_of-self-clause-made
invariant_of-self-clause-made c =
    made_on c.args.self.now.geometry c.args.self.now.number (Store c.entry_at-at.result c.entry_word.result)
    (recorded c.args.self.now.hand) (recorded c.store.new.hand) c.args.self.now.made c.store.ensures.recorded
    (rw c.entry_at-at.ensures (stores_entry c.args.bucket c.entry_word.result c.requires.below))
