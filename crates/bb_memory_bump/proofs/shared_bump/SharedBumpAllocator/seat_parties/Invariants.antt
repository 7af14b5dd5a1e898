use Rattle.bb_memory_bump.proofs.shared_bump.SharedBumpAllocator.seat_parties.Given as goal
use Rattle.bb_memory_bump.specs.SharedBump.{fresh_party}
use Rattle.bb_memory_bump.specs.SharedBumpRule.{sight}
use Rattle.bb_memory_seats.specs.Seats.{fresh_from, standing_for}
use Rattle.std.proofs.Common.{All, Some, [], length, vec_capacity, vec_len, ℕ, ◌-◌, ◌<◌, ◌≡◌, ◌≤◌}
use Rattle.std.specs.Prelude.{slice_get}

abbrev pub invariant-loop-number : goal.invariant-loop-number
invariant-loop-number l = record {
  table : l.rest.table_id ≡ l.self.table;
  rest : l.rest.me ≡ (standing_for (sight l.self.scene 0) (fresh_from l.number (l.parties - l.number)), []);
  len : vec_len l.all ≡ l.number;
  long : length l.all.items ≡ l.number;
  room : l.parties ≤ vec_capacity l.all;
  theirs : All (λ party. party.allocator ≡ l.self) l.all.items;
  fresh : (k : ℕ) → k < l.number → slice_get l.all.items k ≡ Some (fresh_party l.self k);
}
