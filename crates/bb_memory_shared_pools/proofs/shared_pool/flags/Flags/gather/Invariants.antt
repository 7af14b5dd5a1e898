use Rattle.bb_memory_seats.specs.Seats.{standing_for}
use Rattle.bb_memory_shared_pools.proofs.shared_pool.flags.Flags.gather.Given as goal
use Rattle.bb_memory_shared_pools.specs.SharedPoolRule.{numbered_of}
use Rattle.std.proofs.Common.{All, [], drop, map, take, vec_capacity, vec_len, ◌++◌, ◌≡◌}

-- the parties from `at` on have come to the seat, and the others are as they were
abbrev pub invariant-loop-at : goal.invariant-loop-at
invariant-loop-at l = record {
  table : l.seat.table_id ≡ l.initial.seat.table_id;
  seat : l.seat.me ≡ (standing_for l.fn.self.scene (map numbered_of (drop l.at l.initial.rest.items) ++ l.initial.seat.me.0.parties), []);
  others : take l.at l.rest.items ≡ take l.at l.initial.rest.items;
  parties : map numbered_of l.rest.items ≡ map numbered_of l.initial.rest.items;
  scene : All (λ party. party.allocator.scene ≡ l.fn.self.scene) l.rest.items;
  len : vec_len l.rest ≡ vec_len l.initial.rest;
  capacity : vec_capacity l.rest ≡ vec_capacity l.initial.rest;
}
