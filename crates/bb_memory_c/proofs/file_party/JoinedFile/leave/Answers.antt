use Rattle.bb_memory_c.proofs.file_party.JoinedFile.leave.Goals as goal
use Rattle.bb_memory_c.specs.Files.{JoinedFile, LeavesFrom}
use Rattle.bb_memory_file.specs.FileParties.{log_of}
use Rattle.std.proofs.Common.{subst}

pub returns : goal.returns
returns c = subst (λ (f : JoinedFile). LeavesFrom (log_of f.party.words) c.leave.result) c.self.view_is c.leave.ensures
