use Rattle.bb_memory_pool_machine.proofs.PoolRuns.{pool_run, run_is_sound}
use Rattle.bb_memory_shared_pools.proofs.SharedPoolLaws.{both_apart, both_held, buckets_apart, history_held, history_missed, history_refused, no_overlap}
use Rattle.bb_memory_shared_pools.proofs.shared_pool.shared_pool_law.Goals as goal

pub returns : goal.returns
returns c = record {
  run = λ party is layouts asked.
      pool_run party.allocator.scene is.interleaved.steps layouts is.scene.geometry asked;
  held = history_held;
  sound = λ party is layouts live run.
      run_is_sound party.allocator.scene is.interleaved.steps layouts live is.scene.geometry run;
  refused = history_refused;
  missed = history_missed;
  both_run = λ a b met layouts is asked.
      pool_run a.allocator.scene met.steps layouts is.scene.geometry asked;
  both_held = both_held;
  apart = both_apart;
  a_stride_apart = buckets_apart;
  no_overlap = no_overlap;
}
