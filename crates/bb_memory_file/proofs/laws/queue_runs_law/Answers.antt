use Rattle.bb_memory_file.proofs.FileQueueRuns.{run_obeys}
use Rattle.bb_memory_file.proofs.laws.queue_runs_law.Goals as goal

pub returns : goal.returns
returns c = record { obeys = run_obeys }
