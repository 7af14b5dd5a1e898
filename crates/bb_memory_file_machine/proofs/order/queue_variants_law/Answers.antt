use Rattle.bb_memory_file_machine.proofs.QueueCounterexamples.{any_lap_loses, empty_loses, goes_round, past_empty_loses, take_any_loses, take_unlooked_loses, unlooked_loses}
use Rattle.bb_memory_file_machine.proofs.order.queue_variants_law.Goals as goal

pub returns : goal.returns
returns c = record {
  rules = goes_round;
  fill_unlooked = unlooked_loses;
  fill_any_lap = any_lap_loses;
  take_any = take_any_loses;
  take_unlooked = take_unlooked_loses;
  take_past_empty = past_empty_loses;
  empty_any_lap = empty_loses;
}
