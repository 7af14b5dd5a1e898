use Rattle.bb_memory_file.proofs.FileMade.{made_on}
use Rattle.bb_memory_file.proofs.party_words.FilePartyWords.empty_slot.Goals as goal
use Rattle.bb_memory_file.specs.FileOperations.{empties_slot}
use Rattle.bb_memory_file.specs.Recorded.{Store, recorded}

pub invariant_of-self-clause-made : goal.invariant_of-self-clause-made
invariant_of-self-clause-made c =
    made_on c.args.self.now.geometry c.args.self.now.number (Store c.slot_at-at.result c.slot_word.result)
    (recorded c.args.self.now.hand) (recorded c.store.new.hand) c.args.self.now.made c.store.ensures.recorded
    (rw (c.slot_at-at.ensures, c.slot_word.ensures.word) (empties_slot c.args.slot c.args.next c.requires.below c.requires.next))
