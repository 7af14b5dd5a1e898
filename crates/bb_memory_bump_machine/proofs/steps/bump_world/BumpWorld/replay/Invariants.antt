use Rattle.bb_memory_bump_machine.proofs.steps.bump_world.BumpWorld.replay.Given as goal
use Rattle.bb_memory_bump_machine.specs.BumpWorld.{after_steps, outcomes_of}
use Rattle.std.proofs.Common.{drop, length, vec_capacity, vec_len, ◌++◌, ◌≡◌, ◌≤◌}

-- the answers so far, followed by those to the rest, are the answers to all steps
abbrev pub invariant-loop-step : goal.invariant-loop-step
invariant-loop-step l =
    let left = drop l.step-index l.steps in
    record {
      told : l.outcomes.items ++ outcomes_of l.self left ≡ outcomes_of l.fn.self l.steps;
      state : after_steps l.self left ≡ after_steps l.fn.self l.steps;
      count : vec_len l.outcomes ≡ l.step-index;
      room : length l.steps ≤ vec_capacity l.outcomes;
    }
