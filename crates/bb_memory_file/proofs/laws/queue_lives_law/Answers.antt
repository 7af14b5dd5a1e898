use Rattle.bb_memory_file.proofs.FileQueueExample.{goes_through}
use Rattle.bb_memory_file.proofs.FileQueueLives.{lives_obey}
use Rattle.bb_memory_file.proofs.FileRecentLooks.{all_recent}
use Rattle.bb_memory_file.proofs.FileRunMoments.{events_told}
use Rattle.bb_memory_file.proofs.laws.queue_lives_law.Goals as goal

pub returns : goal.returns
returns c = record { obeys = lives_obey; logs = events_told; recent = all_recent; possible = goes_through }
