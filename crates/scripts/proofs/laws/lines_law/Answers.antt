use Rattle.scripts.proofs.WholeLines.{lines_are, lines_only}
use Rattle.scripts.proofs.laws.lines_law.Goals as goal

pub returns : goal.returns
returns c = record { are = lines_are; only = lines_only }
