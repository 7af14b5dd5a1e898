use Rattle.bb_memory_file.proofs.FileMade.{made_on}
use Rattle.bb_memory_file.proofs.FileSlotWords.{has_word}
use Rattle.bb_memory_file.proofs.party_words.FilePartyWords.exchange_slot.Goals as goal
use Rattle.bb_memory_file.specs.FileOperations.{exchanges_slot}
use Rattle.bb_memory_file.specs.Recorded.{Exchange, recorded}

pub invariant_of-self-clause-made : goal.invariant_of-self-clause-made
invariant_of-self-clause-made c =
    made_on c.args.self.now.geometry c.args.self.now.number
    (Exchange c.slot_at-at.result c.slot_word-word.result c.slot_word.result c.exchange-found.result)
    (recorded c.args.self.now.hand) (recorded c.exchange-found.new.hand) c.args.self.now.made c.exchange-found.ensures.recorded
    (rw (c.slot_at-at.ensures, c.slot_word-word.ensures.word)
    (exchanges_slot c.args.slot c.args.from c.slot_word.result c.exchange-found.result c.requires.below
    (has_word c.args.self.now.geometry.buckets c.args.from c.args.self.now.geometry_is.buckets c.requires.from
    c.requires.buckets.0)))
