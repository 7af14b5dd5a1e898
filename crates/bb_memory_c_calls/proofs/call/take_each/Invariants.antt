use Rattle.bb_memory_c_calls.proofs.call.take_each.Given as goal
use Rattle.bb_memory_c_calls.specs.Calls.{AtEach, TakesAt}
use Rattle.std.proofs.Common.{drop, take, ◌≡◌}

abbrev pub invariant-loop-slot : goal.invariant-loop-slot
invariant-loop-slot g l = record {
  counted : l.taken ≡ l.slot-index;
  made : AtEach (TakesAt g.M.Bucketed.may_take) l.initial.made (take l.slot-index l.slots) l.made;
  others : drop l.slot-index l.slots ≡ drop l.slot-index l.initial.slots;
}
