use Rattle.bb_memory_file_machine.proofs.steps.file_world.FileWorld.replay.Given as goal
use Rattle.bb_memory_file_machine.specs.FileMachine.{file_after, outcomes_of}
use Rattle.std.proofs.Common.{drop, length, vec_capacity, vec_len, ◌++◌, ◌≡◌, ◌≤◌}

-- the answers so far and those to what is left are those to all
abbrev pub invariant-loop-step : goal.invariant-loop-step
invariant-loop-step l =
    let left = drop l.step-index l.steps in
    record {
      told : l.outcomes.items ++ outcomes_of l.self left ≡ outcomes_of l.fn.self l.steps;
      state : file_after l.self left ≡ file_after l.fn.self l.steps;
      count : vec_len l.outcomes ≡ l.step-index;
      room : length l.steps ≤ vec_capacity l.outcomes;
    }
