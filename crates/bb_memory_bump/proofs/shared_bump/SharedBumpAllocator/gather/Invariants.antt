use Rattle.bb_memory_bump.proofs.shared_bump.SharedBumpAllocator.gather.Given as goal
use Rattle.bb_memory_bump.specs.SharedBumpRule.{met_by, numbered_of, sight}
use Rattle.bb_memory_seats.specs.Seats.{standing_for}
use Rattle.std.proofs.Common.{All, [], drop, map, take, vec_capacity, vec_len, ◌++◌, ◌≡◌, ◌≤◌}

-- the parties from `at` on have come to the seat, and the others are as they were
abbrev pub invariant-loop-at : goal.invariant-loop-at
invariant-loop-at l = record {
  table : l.seat.table_id ≡ l.initial.seat.table_id;
  seat : l.seat.me ≡ (
    standing_for (sight l.fn.self.scene (met_by l.seat.me.0))
        (map numbered_of (drop l.at l.initial.rest.items) ++ l.initial.seat.me.0.parties),
    [],
  );
  met : met_by l.initial.seat.me.0 ≤ met_by l.seat.me.0;
  risen : All (λ party. party.met ≤ met_by l.seat.me.0) (drop l.at l.initial.rest.items);
  others : take l.at l.rest.items ≡ take l.at l.initial.rest.items;
  parties : map numbered_of l.rest.items ≡ map numbered_of l.initial.rest.items;
  scene : All (λ party. party.allocator.scene ≡ l.fn.self.scene) l.rest.items;
  len : vec_len l.rest ≡ vec_len l.initial.rest;
  capacity : vec_capacity l.rest ≡ vec_capacity l.initial.rest;
}
