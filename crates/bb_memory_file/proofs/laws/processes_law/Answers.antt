use Rattle.bb_memory_file.proofs.FileProcesses.{events_obey_in, path_among}
use Rattle.bb_memory_file.proofs.laws.processes_law.Goals as goal
use Rattle.bb_memory_file.specs.FileParties.{with_processes}

pub returns : goal.returns
returns c = record {
  path = λ processes process before log from there taken. path_among processes process before from log taken there;
  obeys = λ processes party queue events. events_obey_in party queue (with_processes queue.scene processes) events;
}
