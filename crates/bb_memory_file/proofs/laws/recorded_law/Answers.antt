use Rattle.bb_memory_file.proofs.FileRecords.{is_machines_row, is_run, is_told}
use Rattle.bb_memory_file.proofs.laws.recorded_law.Goals as goal

pub returns : goal.returns
returns c = record { told = is_told; machine = is_machines_row; run = is_run }
