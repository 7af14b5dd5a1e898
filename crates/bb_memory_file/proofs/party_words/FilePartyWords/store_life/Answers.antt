use Rattle.bb_memory_file.proofs.FileMade.{made_on}
use Rattle.bb_memory_file.proofs.party_words.FilePartyWords.store_life.Goals as goal
use Rattle.bb_memory_file.specs.FileOperations.{stores_life}
use Rattle.bb_memory_file.specs.Recorded.{Store, recorded}

pub invariant_of-self-clause-made : goal.invariant_of-self-clause-made
invariant_of-self-clause-made c =
    made_on c.args.self.now.geometry c.args.self.now.number (Store c.life_at-at.result c.args.to)
    (recorded c.args.self.now.hand) (recorded c.store.new.hand) c.args.self.now.made c.store.ensures.recorded
    (rw c.life_at-at.ensures (stores_life c.args.to))
