use Rattle.bb_memory_bump_machine.proofs.BumpBounds.{seen_in_size}
use Rattle.bb_memory_bump_machine.proofs.BumpLosses.{losses_few, losses_raise}
use Rattle.bb_memory_bump_machine.proofs.BumpRuns.{calls_beginning, calls_run, calls_stand, position_used, run_at_step}
use Rattle.bb_memory_bump_machine.proofs.BumpStretches.{healthy_after, position_in_size, sound_from, stretch_grows}
use Rattle.bb_memory_bump_machine.proofs.steps.bump.bump_theorem.Goals as goal
use Rattle.bb_memory_bump_machine.specs.BumpMachine.{Loaded, left_by, load, opening_state}
use Rattle.bb_memory_traits.proofs.LiveLists.{stands_for_some}
use Rattle.std.proofs.Common.{ap, ◌∙◌}

pub returns : goal.returns
returns c = record {
  some_list = λ scene. stands_for_some scene.region scene.opening;
  run = calls_run;
  beginning = calls_beginning;
  every_step = run_at_step;
  stands = calls_stand;
  position = position_used;
  load = λ scene live steps party opens idle.
      ap (λ now. (load (left_by scene steps) now).outcome) idle ∙ ap Loaded (position_used scene live steps opens);
  within = position_in_size;
  seen_within = seen_in_size;
  sound = λ scene live steps opens. (calls_stand scene live steps opens).sound;
  won = λ scene before stretch within none.
      sound_from scene.region (left_by scene before) stretch (healthy_after scene before within) none;
  since = λ scene. stretch_grows scene.region (opening_state scene);
  raised = losses_raise;
  losses = losses_few;
}
