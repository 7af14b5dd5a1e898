use Rattle.bb_memory_file.proofs.FileBeginnings.{says_new}
use Rattle.bb_memory_file.proofs.FileRows.{events_are}
use Rattle.bb_memory_file.proofs.laws.words_law.Goals as goal

pub returns : goal.returns
returns c = record {
  event = λ geometry party row words operation is its says. events_are geometry row words is says party its operation;
  new_file = says_new;
}
