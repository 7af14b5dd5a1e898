use Rattle.bb_memory_seats.specs.Seats.{fresh_from, standing_for}
use Rattle.bb_memory_shared_pools.proofs.shared_pool.buckets.SharedBucketPool.seat_parties.Given as goal
use Rattle.bb_memory_shared_pools.specs.SharedPool.{fresh_party}
use Rattle.std.proofs.Common.{All, Some, [], length, vec_capacity, vec_len, ℕ, ◌-◌, ◌<◌, ◌≡◌, ◌≤◌}
use Rattle.std.specs.Prelude.{slice_get}

abbrev pub invariant-loop-number : goal.invariant-loop-number
invariant-loop-number g l = record {
  table : l.rest.table_id ≡ l.self.table;
  rest : l.rest.me ≡ (standing_for l.self.scene (fresh_from l.number (l.parties - l.number)), []);
  len : vec_len l.all ≡ l.number;
  long : length l.all.items ≡ l.number;
  room : l.parties ≤ vec_capacity l.all;
  theirs : All (λ party. party.allocator ≡ l.self) l.all.items;
  fresh : (k : ℕ) → k < l.number → slice_get l.all.items k ≡ Some (fresh_party l.self k);
}
