use Rattle.bb_memory_file.proofs.FileRunTheorem.{is_machines}
use Rattle.bb_memory_file.proofs.laws.file_code_theorem.Goals as goal

pub returns : goal.returns
returns c = record { machine = is_machines }
