use Rattle.bb_memory_file.proofs.FileMade.{made_on}
use Rattle.bb_memory_file.proofs.party_words.FilePartyWords.exchange_flag.Goals as goal
use Rattle.bb_memory_file.specs.FileOperations.{exchanges_flag}
use Rattle.bb_memory_file.specs.Recorded.{Exchange, recorded}

pub invariant_of-self-clause-made : goal.invariant_of-self-clause-made
invariant_of-self-clause-made c =
    made_on c.args.self.now.geometry c.args.self.now.number
    (Exchange c.flag_at-at.result c.flag_word-wanted.result c.flag_word.result c.exchange-found.result)
    (recorded c.args.self.now.hand) (recorded c.exchange-found.new.hand) c.args.self.now.made c.exchange-found.ensures.recorded
    (rw (c.flag_at-at.ensures, c.flag_word-wanted.ensures.word)
    (exchanges_flag c.args.bucket c.args.from c.flag_word.result c.exchange-found.result c.requires.below
    c.flag_word-wanted.ensures.has))
