use Rattle.bb_memory_seats.specs.Seats.{standing_for}
use Rattle.bb_memory_shared_pools.proofs.shared_pool.flags.Flags.part.Given as goal
use Rattle.bb_memory_shared_pools.specs.SharedPoolRule.{NumberedLog, numbered_of, of_pool}
use Rattle.std.proofs.Common.{List, [], drop, map, take, vec_capacity, vec_len, ◌++◌, ◌≡◌}

-- the parties before `at` are back at their own seats, and the others are as they were
abbrev pub invariant-loop-at : goal.invariant-loop-at
invariant-loop-at l = record {
  table : l.seat.table_id ≡ l.initial.seat.table_id;
  seat : (others : List NumberedLog) →
      l.initial.seat.me ≡ (standing_for l.fn.self.scene (map numbered_of l.initial.rest.items ++ others), []) →
      l.seat.me ≡ (standing_for l.fn.self.scene (map numbered_of (drop l.at l.initial.rest.items) ++ others), []);
  back : take l.at l.rest.items ≡ map (of_pool l.fn.self) (map numbered_of (take l.at l.initial.rest.items));
  others : drop l.at l.rest.items ≡ drop l.at l.initial.rest.items;
  len : vec_len l.rest ≡ vec_len l.initial.rest;
  capacity : vec_capacity l.rest ≡ vec_capacity l.initial.rest;
}
