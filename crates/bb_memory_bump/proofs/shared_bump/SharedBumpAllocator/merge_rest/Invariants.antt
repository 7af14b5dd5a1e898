use Rattle.bb_memory_bump.proofs.shared_bump.SharedBumpAllocator.merge_rest.Given as goal
use Rattle.bb_memory_bump.specs.SharedBump.{BumpParty}
use Rattle.bb_memory_bump.specs.SharedBumpRule.{met_by, numbered_of, sight}
use Rattle.bb_memory_seats.specs.Seats.{standing_for}
use Rattle.std.proofs.Common.{All, [], length, map, ℕ, ◌++◌, ◌≡◌, ◌≤◌}

abbrev pub invariant-loop-party : goal.invariant-loop-party
invariant-loop-party l = record {
  table : l.seat.table_id ≡ l.fn.seat.table_id;
  seat : l.seat.me ≡ (standing_for (sight l.self.scene (met_by l.seat.me.0)) l.seat.me.0.parties, []);
  all : map numbered_of l.rest.items ++ l.seat.me.0.parties ≡ map numbered_of l.fn.rest.items ++ l.fn.seat.me.0.parties;
  met : met_by l.fn.seat.me.0 ≤ met_by l.seat.me.0;
  theirs : All (λ p. p.allocator ≡ l.self) l.rest.items;
  risen : (most : ℕ) → met_by l.seat.me.0 ≤ most → All (λ (p : BumpParty). p.met ≤ most) l.rest.items
      → All (λ (p : BumpParty). p.met ≤ most) l.fn.rest.items;
}

abbrev pub decreases-loop-party : goal.decreases-loop-party
decreases-loop-party l = length l.rest.items
