use Rattle.bb_memory_traits.proofs.LiveBytes.{given_apart, last_two_apart}
use Rattle.bb_memory_traits.proofs.layout.chunk.given_law.Goals as goal

pub returns : goal.returns
returns c = record { given = given_apart; last_two = last_two_apart }
