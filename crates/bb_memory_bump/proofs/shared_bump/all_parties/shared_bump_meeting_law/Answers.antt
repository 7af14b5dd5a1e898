use Rattle.bb_memory_bump.proofs.SharedBumpWholes.{met_apart, met_held, met_logged, met_nobody_else, met_stands}
use Rattle.bb_memory_bump.proofs.shared_bump.all_parties.shared_bump_meeting_law.Goals as goal
use Rattle.bb_memory_bump_machine.proofs.BumpRuns.{calls_run}
use Rattle.bb_memory_bump_machine.proofs.OwnChunks.{agreed_since}

pub returns : goal.returns
returns c = record {
  run = λ scene position parties live met. calls_run scene live met.agree.steps;
  stands = λ scene position parties live met. met_stands scene position parties met live;
  since = λ scene position parties live met. agreed_since scene position met.logs live met.agree;
  held = λ scene position parties live met. met_held scene position parties met live;
  logged = met_logged;
  nobody_else = met_nobody_else;
  apart = met_apart;
}
