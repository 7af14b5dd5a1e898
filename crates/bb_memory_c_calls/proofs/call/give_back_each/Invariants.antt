use Rattle.bb_memory_c_calls.proofs.call.give_back_each.Given as goal
use Rattle.bb_memory_c_calls.specs.Calls.{AtEach, FreesAt}
use Rattle.std.proofs.Common.{take, ◌≡◌}

abbrev pub invariant-loop-place : goal.invariant-loop-place
invariant-loop-place g l = record {
  counted : l.returned ≡ l.place-index;
  freed : AtEach (FreesAt g.M.Keeps.may_free g.M.Keeps.frees) l.initial.made (take l.place-index l.places) l.made;
}
