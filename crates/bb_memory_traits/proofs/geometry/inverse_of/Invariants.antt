use Rattle.bb_memory_traits.proofs.geometry.inverse_of.Given as goal
use Rattle.std.proofs.Common.{◌%◌, ◌*◌, ◌+◌, ◌^◌, ◌≡◌}

abbrev pub invariant-loop-step : goal.invariant-loop-step
invariant-loop-step l = record {
  one : (l.odd * l.inverse + l.rest) % 2 ^ 64 ≡ 1;
  multiple : l.rest % 2 ^ (2 ^ l._step) ≡ 0;
}
