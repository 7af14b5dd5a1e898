use Rattle.bb_memory_bump.proofs.shared_bump.SharedBumpAllocator.part.Given as goal
use Rattle.bb_memory_bump.specs.SharedBumpRule.{NumberedLog, met_by, met_of, numbered_of, sight}
use Rattle.bb_memory_seats.specs.Seats.{standing_for}
use Rattle.std.proofs.Common.{List, [], drop, map, take, vec_capacity, vec_len, ◌++◌, ◌≡◌}

-- the parties before `at` are back at their own seats, and the others are as they were
abbrev pub invariant-loop-at : goal.invariant-loop-at
invariant-loop-at l = record {
  table : l.seat.table_id ≡ l.initial.seat.table_id;
  seat : (others : List NumberedLog) →
      l.initial.seat.me.0.parties ≡ map numbered_of l.initial.rest.items ++ others →
      l.seat.me ≡ (
        standing_for (sight l.fn.self.scene (met_by l.initial.seat.me.0))
            (map numbered_of (drop l.at l.initial.rest.items) ++ others),
        [],
      );
  back : take l.at l.rest.items
      ≡ map (met_of l.fn.self (met_by l.initial.seat.me.0)) (map numbered_of (take l.at l.initial.rest.items));
  others : drop l.at l.rest.items ≡ drop l.at l.initial.rest.items;
  len : vec_len l.rest ≡ vec_len l.initial.rest;
  capacity : vec_capacity l.rest ≡ vec_capacity l.initial.rest;
}
