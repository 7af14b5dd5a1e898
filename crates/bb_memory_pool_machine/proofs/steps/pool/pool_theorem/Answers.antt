use Rattle.bb_memory_pool_machine.proofs.PoolDetached.{attached_from_sender, missed_from_sender, none_detached_alone, token_from_sender, was_detached_before}
use Rattle.bb_memory_pool_machine.proofs.PoolHolders.{detached_unheld, holder_in_log, one_holder}
use Rattle.bb_memory_pool_machine.proofs.PoolPasses.{missed_is_held, refused_found_held}
use Rattle.bb_memory_pool_machine.proofs.PoolRuns.{pool_run, run_at_step, run_is_sound, taken_is_held}
use Rattle.bb_memory_pool_machine.proofs.steps.pool.pool_theorem.Goals as goal
use Rattle.bb_memory_traits.proofs.PoolGeometries.{some_geometry}
use Rattle.std.proofs.Common.{rules}

pub returns : goal.returns
returns c = record {
  some_geometry = some_geometry;
  all_buckets = search rules;
  fewer_buckets = search rules;
  run = pool_run;
  every_step = run_at_step;
  taken = taken_is_held;
  sound = run_is_sound;
  holder = holder_in_log;
  apart = one_holder;
  refused = refused_found_held;
  one_bucket = search rules;
  missed = missed_is_held;
  detached_unheld = detached_unheld;
  none_detached_alone = none_detached_alone;
  was_detached = was_detached_before;
  attached_from = attached_from_sender;
  missed_from = missed_from_sender;
  found_token = token_from_sender;
}
