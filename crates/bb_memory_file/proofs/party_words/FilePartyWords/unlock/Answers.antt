use Rattle.bb_memory_file.proofs.party_words.FilePartyWords.unlock.Goals as goal
use Rattle.std.proofs.Common.{refl}

pub returns : goal.returns
returns c = (c.args.self, refl, c.requires)
