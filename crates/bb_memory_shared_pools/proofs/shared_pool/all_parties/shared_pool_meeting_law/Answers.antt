use Rattle.bb_memory_pool_machine.proofs.PoolRuns.{pool_run, run_is_sound}
use Rattle.bb_memory_shared_pools.proofs.SharedPoolWholes.{met_apart, met_detached, met_flags, met_held, met_logged, met_nobody_else, met_sent, met_was_detached, one_took, refused_took_none}
use Rattle.bb_memory_shared_pools.proofs.shared_pool.all_parties.shared_pool_meeting_law.Goals as goal

pub returns : goal.returns
returns c = record {
  run = λ scene parties met layouts shared asked.
      pool_run scene met.1.agree.steps layouts shared.geometry asked;
  sound = λ scene parties met layouts live shared run.
      run_is_sound scene met.1.agree.steps layouts live shared.geometry run;
  flags = met_flags;
  held = met_held;
  logged = met_logged;
  nobody_else = met_nobody_else;
  one_took = one_took;
  refused_took_none = refused_took_none;
  detached = met_detached;
  was_detached = met_was_detached;
  sent = met_sent;
  apart = met_apart;
}
